-- Each frame in the words that hold all, by its number from the oldest.
use Rattle.std.proofs.Common.{◌≡◌, ℕ, zero, suc, ◌+◌, ◌-◌, ◌<◌, ◌≤◌, List, [], ◌∷◌, ◌++◌, length, take, drop, get_or, slice_get, Option, Some, inl, inr, refl, sym, ap, ◌∙◌, arith}
use Rattle.std.specs.Prelude.{reverse}
use Rattle.std.proofs.lemmas.Bool.{cases_lt}
use Rattle.std.proofs.lemmas.List.{get_or-append_right, get_or-reverse, get_or_append_left, get_or_default, get_or_past, length-append, length-reverse, length-take, reverse-append, take-take}
use Rattle.std.proofs.lemmas.Option.{get_or_from_slice_get, slice_get-get_or, slice_get_within}
use Rattle.zstate.specs.declared.head.Head.{Head}
use Rattle.zstate.specs.State.{Frame}
use Rattle.zstate.specs.Packed.{ArePacked, Chain, below, chain_of, frame_of, frames_of}
use Rattle.zstate.proofs.Packing.{called_below, depth_seen}

-- the head of the frame above the one of a number, counted from the newest caller
abbrev above_of : Head → List Head → ℕ → Head
above_of h hs zero = h
above_of h [] (suc j) = h
above_of h (b ∷ bs) (suc j) = above_of b bs j

-- a frame ends before the frame above it begins, which is in the words
pub record EndsBelow (a g : Head) (xs : List ℕ) : Type 0 where
  pub one : 1 ≤ a.base
  pub fits : g.base + g.count ≤ a.base - 1
  pub inside : a.base - 1 ≤ length xs

below_long : (h : Head) (xs : List ℕ) → h.base ≤ length xs → length (below h xs) ≡ h.base - 1
below_long h xs fits = length-take (h.base - 1) xs ∙ omega (arith, fits)

held : (h : Head) (hs : List Head) (xs : List ℕ) (j : ℕ) (g : Head) → ArePacked h hs xs → slice_get hs j ≡ Some g → EndsBelow (above_of h hs j) g xs × (slice_get (frames_of hs (below h xs)) j ≡ Some (frame_of g (drop g.base (take ((above_of h hs j).base - 1) xs))))
unfolding frames_of
held h [] xs j g packed e = absurd cc
held h (b ∷ bs) xs zero g packed e =
    let same : b ≡ g = ap (λ (r : Option Head). or_else r) e in
    let under = called_below h b bs xs packed in
    let fits = packed.0 in
    let long = below_long h xs (omega (arith, fits)) in
    rw (sym same) (record { one = under.0; fits = (let inner = under.1.0 in omega (arith, inner, long)); inside = omega (arith, fits) }, refl)
  where
    or_else : Option Head → Head
    or_else (Some x) = x
    or_else _ = b
held h (b ∷ bs) xs (suc j) g packed e =
    let under = called_below h b bs xs packed in
    let fits = packed.0 in
    let long = below_long h xs (omega (arith, fits)) in
    let more = held b bs (below h xs) j g under.1 e in
    let cut = take-take ((above_of b bs j).base - 1) (h.base - 1) xs (let inside = more.0.inside in omega (arith, inside, long)) in
    (record { one = more.0.one; fits = more.0.fits; inside = (let inside = more.0.inside in omega (arith, inside, long, fits)) }, more.1 ∙ ap (λ (ws : List ℕ). Some (frame_of g (drop g.base ws))) cut)

above_is : (h : Head) (hs : List Head) (j : ℕ) → j ≤ length hs → above_of h hs j ≡ get_or (h ∷ hs) j h
above_is h hs zero few = refl
above_is h [] (suc j) few = absurd (omega (arith, few))
above_is h (b ∷ bs) (suc j) few = above_is b bs j (omega (arith, few)) ∙ get_or_default (b ∷ bs) j b h (omega (arith, few))

-- a thing by its number from the other end
pub turned : {X : Type 0} (xs : List X) (k : ℕ) (x : X) → slice_get xs k ≡ Some x → slice_get (reverse xs) (length xs - 1 - k) ≡ Some x
turned {X = X} xs k x e =
    let inside = slice_get_within xs k x e in
    let size = length-reverse xs in
    let there : length xs - 1 - (length xs - 1 - k) ≡ k = omega (arith, inside) in
    slice_get-get_or (reverse xs) (length xs - 1 - k) x (omega (arith, size, inside))
    ∙ ap (λ (y : X). Some y) (get_or-reverse xs (length xs - 1 - k) x (omega (arith, inside)) ∙ ap (λ (i : ℕ). get_or xs i x) there ∙ get_or_from_slice_get xs k x x e)

-- the head of the frame above, where the newest of the callers stands last
above_turned : (h : Head) (items : List Head) (k : ℕ) → k < length items → above_of h (reverse items) (length items - 1 - k) ≡ get_or items (k + 1) h
above_turned h items k inside =
    let size = length-reverse items in
    let all : h ∷ reverse items ≡ reverse (items ++ h ∷ []) = sym (reverse-append items (h ∷ [])) in
    let long = length-append items (h ∷ []) in
    let there : length (items ++ h ∷ []) - 1 - (length items - 1 - k) ≡ k + 1 = omega (arith, long, inside) in
    above_is h (reverse items) (length items - 1 - k) (omega (arith, size))
    ∙ ap (λ (hs : List Head). get_or hs (length items - 1 - k) h) all
    ∙ get_or-reverse (items ++ h ∷ []) (length items - 1 - k) h (omega (arith, long, inside))
    ∙ ap (λ (i : ℕ). get_or (items ++ h ∷ []) i h) there
    ∙ elim (cases_lt (k + 1) (length items)) [
      | inl more ↦ get_or_append_left items (h ∷ []) h (k + 1) more
      | inr last ↦ get_or-append_right items (h ∷ []) (length items) (k + 1) h refl last ∙ ap (λ (i : ℕ). get_or (h ∷ []) i h) {y = 0} (omega (arith, last, inside)) ∙ sym (get_or_past items (k + 1) h last)
    ]

-- the frame of a caller, by its number from the oldest
pub caller_held : (h : Head) (items : List Head) (xs : List ℕ) (v : Chain) (k : ℕ) (g a : Head) → ArePacked h (reverse items) xs → chain_of h (reverse items) xs ≡ v → slice_get items k ≡ Some g → a ≡ get_or items (k + 1) h → EndsBelow a g xs × (slice_get (reverse (v.newest ∷ v.callers)) k ≡ Some (frame_of g (drop g.base (take (a.base - 1) xs))))
caller_held h items xs v k g a packed seen e is =
    let inside = slice_get_within items k g e in
    let there = held h (reverse items) xs (length items - 1 - k) g packed (turned items k g e) in
    let same : above_of h (reverse items) (length items - 1 - k) ≡ a = above_turned h items k inside ∙ sym is in
    let deep : length items ≡ length v.callers = depth_seen h items xs packed v seen in
    let callers : frames_of (reverse items) (below h xs) ≡ v.callers = ap (λ (c : Chain). c.callers) seen in
    let at : slice_get v.callers (length items - 1 - k) ≡ Some (frame_of g (drop g.base (take (a.base - 1) xs))) = rw (callers, same) at there.1 in
    (rw same at there.0, from_oldest v.newest v.callers k (length items - 1 - k) _ (omega (arith, deep, inside)) (omega (arith, deep)) at)
  where
    from_oldest : (f : Frame) (fs : List Frame) (k j : ℕ) (x : Frame) → k < length fs → j ≡ length fs - 1 - k → slice_get fs j ≡ Some x → slice_get (reverse (f ∷ fs)) k ≡ Some x
    from_oldest f fs k j x inside is e =
        let back : length (f ∷ fs) - 1 - (j + 1) ≡ k = omega (arith, is, inside) in
        ap (slice_get (reverse (f ∷ fs))) (sym back) ∙ turned (f ∷ fs) (j + 1) x (ap (slice_get (f ∷ fs)) {y = suc j} (omega arith) ∙ e)

-- and the newest
pub newest_held : (v : Chain) (k : ℕ) → k ≡ length v.callers → slice_get (reverse (v.newest ∷ v.callers)) k ≡ Some v.newest
newest_held v k is =
    let back : length (v.newest ∷ v.callers) - 1 - 0 ≡ k = omega (arith, is) in
    ap (slice_get (reverse (v.newest ∷ v.callers))) (sym back) ∙ turned (v.newest ∷ v.callers) 0 v.newest refl
