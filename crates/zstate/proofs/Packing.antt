-- Words that hold frames, and what is done to them.
use Rattle.std.proofs.Common.{◌≡◌, ℕ, zero, suc, ◌+◌, ◌-◌, ◌<◌, ◌≤◌, List, [], ◌∷◌, ◌++◌, length, take, drop, get_or, slice_get, slice_set, Some, None, refl, sym, ap, subst, ◌∙◌, arith}
use Rattle.std.specs.Prelude.{reverse, slice_index}
use Rattle.std.proofs.lemmas.List.{append_assoc, drop_all, drop_at, get_or-drop, get_or-reverse, length-append, length-drop, length-reverse, length-take-le, length_push, reverse-append, set-append_left, set-append_right, take-append-drop, take-append-le, take-take, take_all, take_at, take_more, length-set}
use Rattle.std.proofs.lemmas.Option.{get_or_from_slice_get}
use Rattle.std.proofs.Math.Seq.{take-append-add, take-length}
use Rattle.zstate.specs.declared.head.Head.{Head}
use Rattle.zstate.specs.State.{Frame}
use Rattle.zstate.specs.Packed.{ArePacked, AreBelow, Chain, Fits, below, chain_of, frame_of, frames_of, with_top}
use Rattle.zstate.proofs.Stacks.{reverse-exchange, reverse-set_top, reverse-take}

-- what is below depends on those words alone
below_alike : (h : Head) (hs : List Head) (xs ys : List ℕ) → below h ys ≡ below h xs → AreBelow h hs xs → AreBelow h hs ys
unfolding AreBelow
below_alike h [] xs ys e p = tt
below_alike h (g ∷ gs) xs ys e p = (p.0, subst (λ (ws : List ℕ). Fits g ws) (sym e) p.1, subst (λ (ws : List ℕ). AreBelow g gs ws) (sym e) p.2)

pub depth_of : (hs : List Head) (xs : List ℕ) → length (frames_of hs xs) ≡ length hs
unfolding frames_of
depth_of [] xs = refl
depth_of (h ∷ hs) xs = ap suc (depth_of hs (below h xs))

module _ (h : Head) (hs : List Head) (xs : List ℕ) (packed : ArePacked h hs xs) where
  -- the words below, the locals, and the stack with its top last
  abbrev lower : List ℕ
  lower = take h.base xs

  abbrev locals : List ℕ
  locals = take h.count (drop h.base xs)

  abbrev stack : List ℕ
  stack = drop h.count (drop h.base xs)

  lower_length : length lower ≡ h.base
  lower_length = length-take-le h.base xs (omega (arith, packed.0))

  rest_length : length (drop h.base xs) ≡ length xs - h.base
  rest_length = length-drop h.base xs

  pub locals_length : length locals ≡ h.count
  locals_length = length-take-le h.count (drop h.base xs) (omega (arith, rest_length, packed.0))

  pub stack_length : length stack ≡ length xs - h.base - h.count
  stack_length = length-drop h.count (drop h.base xs) ∙ ap (λ (n : ℕ). n - h.count) rest_length

  whole : xs ≡ lower ++ (locals ++ stack)
  whole = sym (ap (λ (ys : List ℕ). lower ++ ys) (take-append-drop h.count (drop h.base xs)) ∙ take-append-drop h.base xs)

  below_same : (ys : List ℕ) → below h (lower ++ ys) ≡ below h xs
  below_same ys = take-append-le (h.base - 1) lower ys (omega (arith, lower_length)) ∙ take-take (h.base - 1) h.base xs (omega arith)

  above_same : (ys : List ℕ) → drop h.base (lower ++ ys) ≡ ys
  above_same ys = drop_at lower ys h.base lower_length

  -- other locals, and another stack
  framed : (ls zs : List ℕ) → length ls ≡ h.count → chain_of h hs (lower ++ (ls ++ zs)) ≡ record { newest = record { return_place = h.return_place; result = h.result; supplied = h.supplied; locals = ls; stack = reverse zs }; callers = frames_of hs (below h xs) }
  framed ls zs count = rw (above_same (ls ++ zs), below_same (ls ++ zs), take_at ls zs h.count count, drop_at ls zs h.count count) refl

  framed_packed : (ls zs : List ℕ) → length ls ≡ h.count → ArePacked h hs (lower ++ (ls ++ zs))
  framed_packed ls zs count = (
    omega (arith, length-append lower (ls ++ zs), length-append ls zs, lower_length, count),
    below_alike h hs xs (lower ++ (ls ++ zs)) (below_same (ls ++ zs)) packed.1,
  )

  -- ---- the stack

  restacked : (zs ws : List ℕ) (top : List ℕ) → ws ≡ lower ++ (locals ++ zs) → reverse zs ≡ top → chain_of h hs ws ≡ with_top top (chain_of h hs xs)
  restacked zs ws top is on = ap (λ (ys : List ℕ). chain_of h hs ys) is ∙ framed locals zs locals_length ∙ ap (λ (ys : List ℕ). with_top ys (chain_of h hs xs)) on

  restacked_packed : (zs ws : List ℕ) → ws ≡ lower ++ (locals ++ zs) → ArePacked h hs ws
  restacked_packed zs ws is = subst (λ (ys : List ℕ). ArePacked h hs ys) (sym is) (framed_packed locals zs locals_length)

  abbrev IsWithin : ℕ → Type 0
  IsWithin k = k ≤ length (chain_of h hs xs).newest.stack

  pub within_stack : (k : ℕ) → IsWithin k → k ≤ length stack
  within_stack k h = omega (arith, h, length-reverse stack)

  pub within_words : (k : ℕ) → IsWithin k → k ≤ length xs
  within_words k h = omega (arith, within_stack k h, stack_length)

  cut_is : (k : ℕ) → IsWithin k → take (length xs - k) xs ≡ lower ++ (locals ++ take (length stack - k) stack)
  cut_is k within =
      let m : ℕ = length stack - k in
      let count : length xs - k ≡ length lower + (length locals + m) = omega (arith, within_stack k within, lower_length, locals_length, stack_length, packed.0) in
      ap (λ (n : ℕ). take n xs) count ∙ ap (λ (ys : List ℕ). take (length lower + (length locals + m)) ys) whole
      ∙ take-append-add lower (locals ++ stack) (length locals + m) ∙ ap (λ (ys : List ℕ). lower ++ ys) (take-append-add locals stack m)

  pub popped_is : (k : ℕ) → IsWithin k → chain_of h hs (take (length xs - k) xs) ≡ with_top (drop k (chain_of h hs xs).newest.stack) (chain_of h hs xs)
  popped_is k within = restacked (take (length stack - k) stack) (take (length xs - k) xs) (drop k (reverse stack)) (cut_is k within) (reverse-take stack k (within_stack k within))

  pub popped_packed : (k : ℕ) → IsWithin k → ArePacked h hs (take (length xs - k) xs)
  popped_packed k within = restacked_packed (take (length stack - k) stack) (take (length xs - k) xs) (cut_is k within)

  put_is : (k w : ℕ) → IsWithin k → take (length xs - k) xs ++ w ∷ [] ≡ lower ++ (locals ++ (take (length stack - k) stack ++ w ∷ []))
  put_is k w within =
      let zs : List ℕ = take (length stack - k) stack in
      ap (λ (ys : List ℕ). ys ++ w ∷ []) (cut_is k within) ∙ append_assoc lower (locals ++ zs) (w ∷ []) ∙ ap (λ (ys : List ℕ). lower ++ ys) (append_assoc locals zs (w ∷ []))

  pub exchanged_is : (k w : ℕ) → IsWithin k → chain_of h hs (take (length xs - k) xs ++ w ∷ []) ≡ with_top (w ∷ drop k (chain_of h hs xs).newest.stack) (chain_of h hs xs)
  exchanged_is k w within = restacked (take (length stack - k) stack ++ w ∷ []) (take (length xs - k) xs ++ w ∷ []) (w ∷ drop k (reverse stack)) (put_is k w within) (reverse-exchange stack k w (within_stack k within))

  pub exchanged_packed : (k w : ℕ) → IsWithin k → ArePacked h hs (take (length xs - k) xs ++ w ∷ [])
  exchanged_packed k w within = restacked_packed (take (length stack - k) stack ++ w ∷ []) (take (length xs - k) xs ++ w ∷ []) (put_is k w within)

  none_taken : (w : ℕ) → take (length xs - 0) xs ++ w ∷ [] ≡ xs ++ w ∷ []
  none_taken w = ap (λ (ys : List ℕ). ys ++ w ∷ []) (take_all (length xs - 0) xs (omega arith))

  pub pushed_is : (w : ℕ) → chain_of h hs (xs ++ w ∷ []) ≡ with_top (w ∷ (chain_of h hs xs).newest.stack) (chain_of h hs xs)
  pushed_is w = ap (λ (ys : List ℕ). chain_of h hs ys) (sym (none_taken w)) ∙ exchanged_is 0 w (omega arith)

  pub pushed_packed : (w : ℕ) → ArePacked h hs (xs ++ w ∷ [])
  pushed_packed w = subst (λ (ys : List ℕ). ArePacked h hs ys) (none_taken w) (exchanged_packed 0 w (omega arith))

  pub topped_is : (w : ℕ) → IsWithin 1 → chain_of h hs (take (length xs - 1) xs ++ w ∷ []) ≡ with_top (slice_set (chain_of h hs xs).newest.stack 0 w) (chain_of h hs xs)
  topped_is w within = restacked (take (length stack - 1) stack ++ w ∷ []) (take (length xs - 1) xs ++ w ∷ []) (slice_set (reverse stack) 0 w) (put_is 1 w within) (reverse-set_top stack w (within_stack 1 within))

  pub slot_is : (k : ℕ) → k < length (chain_of h hs xs).newest.stack → get_or xs (length xs - 1 - k) 0 ≡ slice_index (chain_of h hs xs).newest.stack k
  slot_is k some =
      let few : k < length stack = omega (arith, some, length-reverse stack) in
      let at : h.base + (h.count + (length stack - 1 - k)) ≡ length xs - 1 - k = omega (arith, few, stack_length, packed.0) in
      sym (get_or-reverse stack k 0 few ∙ get_or-drop h.count (drop h.base xs) (length stack - 1 - k) 0 ∙ get_or-drop h.base xs (h.count + (length stack - 1 - k)) 0 ∙ ap (λ (n : ℕ). get_or xs n 0) at)

  pub height_is : length xs - h.base - h.count ≡ length (chain_of h hs xs).newest.stack
  height_is = sym (length-reverse stack ∙ stack_length)

  -- ---- the locals

  set_is : (k w : ℕ) → k < length (chain_of h hs xs).newest.locals → slice_set xs (h.base + k) w ≡ lower ++ (slice_set locals k w ++ stack)
  set_is k w some =
      let back : h.base + k - h.base ≡ k = omega arith in
      ap (λ (ys : List ℕ). slice_set ys (h.base + k) w) whole ∙ set-append_right lower (locals ++ stack) h.base (h.base + k) w lower_length (omega arith)
      ∙ ap (λ (n : ℕ). lower ++ slice_set (locals ++ stack) n w) back ∙ ap (λ (ys : List ℕ). lower ++ ys) (set-append_left locals stack k w some)

  pub set_local_is : (k w : ℕ) → k < length (chain_of h hs xs).newest.locals → chain_of h hs (slice_set xs (h.base + k) w) ≡ record (chain_of h hs xs) { newest = record (chain_of h hs xs).newest { locals = slice_set (chain_of h hs xs).newest.locals k w } }
  set_local_is k w some = ap (λ (ys : List ℕ). chain_of h hs ys) (set_is k w some) ∙ framed (slice_set locals k w) stack (length-set locals k w ∙ locals_length)

  pub set_local_packed : (k w : ℕ) → k < length (chain_of h hs xs).newest.locals → ArePacked h hs (slice_set xs (h.base + k) w)
  set_local_packed k w some = subst (λ (ys : List ℕ). ArePacked h hs ys) (sym (set_is k w some)) (framed_packed (slice_set locals k w) stack (length-set locals k w ∙ locals_length))

  pub local_within : (k : ℕ) → k < length (chain_of h hs xs).newest.locals → h.base + k < length xs
  local_within k some = omega (arith, some, locals_length, packed.0)

-- ---- a routine begins

module _ (h : Head) (hs : List Head) (ys ls : List ℕ) (packed : ArePacked h hs ys) (f : Head) (base : f.base ≡ length ys + 1) (count : f.count ≡ length ls) (x : ℕ) where
  abbrev grown : List ℕ
  grown = ys ++ x ∷ [] ++ ls

  front_length : length (ys ++ x ∷ []) ≡ f.base
  front_length = length_push ys x ∙ sym base

  under : below f grown ≡ ys
  under = ap (λ (zs : List ℕ). take (f.base - 1) zs) (append_assoc ys (x ∷ []) ls) ∙ take_at ys (x ∷ [] ++ ls) (f.base - 1) (omega (arith, base))

  over : drop f.base grown ≡ ls
  over = drop_at (ys ++ x ∷ []) ls f.base front_length

  newest_is : frame_of f (drop f.base grown) ≡ record { return_place = f.return_place; result = f.result; supplied = f.supplied; locals = ls; stack = [] }
  newest_is = rw (over, count, take_all (length ls) ls (omega arith), drop_all (length ls) ls (omega arith)) refl

  callers_are : frames_of (h ∷ hs) (below f grown) ≡ (chain_of h hs ys).newest ∷ (chain_of h hs ys).callers
  unfolding frames_of
  callers_are = rw under refl

  pub entered_is : chain_of f (h ∷ hs) grown ≡ record { newest = record { return_place = f.return_place; result = f.result; supplied = f.supplied; locals = ls; stack = [] }; callers = (chain_of h hs ys).newest ∷ (chain_of h hs ys).callers }
  entered_is = ap (λ (g : Frame). record { newest = g; callers = frames_of (h ∷ hs) (below f grown) }) newest_is ∙ ap (λ (gs : List Frame). record { newest = record { return_place = f.return_place; result = f.result; supplied = f.supplied; locals = ls; stack = [] }; callers = gs }) callers_are

  pub entered_packed : ArePacked f (h ∷ hs) grown
  unfolding AreBelow
  entered_packed = (
    omega (arith, base, count, front_length, length-append (ys ++ x ∷ []) ls),
    (omega (arith, base), subst (λ (zs : List ℕ). Fits h zs) (sym under) packed.0, subst (λ (zs : List ℕ). AreBelow h hs zs) (sym under) packed.1),
  )

-- ---- a frame is left

pub called_below : (h g : Head) (gs : List Head) (xs : List ℕ) → ArePacked h (g ∷ gs) xs → (1 ≤ h.base) × ArePacked g gs (below h xs)
unfolding AreBelow
called_below h g gs xs packed = (packed.1.0, (packed.1.1, packed.1.2))

pub left_is : (h g : Head) (gs : List Head) (xs : List ℕ) → (chain_of h (g ∷ gs) xs).callers ≡ (chain_of g gs (below h xs)).newest ∷ (chain_of g gs (below h xs)).callers
unfolding frames_of
left_is h g gs xs = refl

abbrev as_chain : Chain → List Frame → Chain
as_chain c [] = c
as_chain c (f ∷ fs) = record { newest = f; callers = fs }

-- ---- as a vector of heads has them, the newest of the callers last

module _ (h : Head) (items : List Head) (xs : List ℕ) (packed : ArePacked h (reverse items) xs) (v : Chain) (seen : chain_of h (reverse items) xs ≡ v) where
  pub depth_seen : length items ≡ length v.callers
  depth_seen = sym (length-reverse items) ∙ sym (depth_of (reverse items) (below h xs)) ∙ ap (λ (c : Chain). length c.callers) seen

  module _ (front : List Head) (g : Head) (is : items ≡ front ++ g ∷ []) where
    heads : reverse items ≡ g ∷ reverse front
    heads = ap reverse is ∙ reverse-append front (g ∷ [])

    whole_packed : ArePacked h (g ∷ reverse front) xs
    whole_packed = subst (λ (hs : List Head). ArePacked h hs xs) heads packed

    pub leave_base : 1 ≤ h.base
    leave_base = (called_below h g (reverse front) xs whole_packed).0

    pub leave_packed : ArePacked g (reverse front) (below h xs)
    leave_packed = (called_below h g (reverse front) xs whole_packed).1

    callers_seen : v.callers ≡ (chain_of g (reverse front) (below h xs)).newest ∷ (chain_of g (reverse front) (below h xs)).callers
    callers_seen = ap (λ (c : Chain). c.callers) (sym seen) ∙ ap (λ (hs : List Head). frames_of hs (below h xs)) heads ∙ left_is h g (reverse front) xs

    pub caller_seen : (v.callers ≡ frame_of g (drop g.base (below h xs)) ∷ frames_of (reverse front) (below g (below h xs)))
    caller_seen = callers_seen

    pub leave_is : (f : Frame) (fs : List Frame) → v.callers ≡ f ∷ fs → chain_of g (reverse front) (below h xs) ≡ record { newest = f; callers = fs }
    leave_is f fs e = ap (λ (gs : List Frame). as_chain (chain_of g (reverse front) (below h xs)) gs) (sym callers_seen ∙ e)

    pub leave_with_is : (w : ℕ) (f : Frame) (fs : List Frame) → v.callers ≡ f ∷ fs → chain_of g (reverse front) (below h xs ++ w ∷ []) ≡ record { newest = record f { stack = w ∷ f.stack }; callers = fs }
    leave_with_is w f fs e = pushed_is g (reverse front) (below h xs) leave_packed w ∙ ap (λ (c : Chain). with_top (w ∷ c.newest.stack) c) (leave_is f fs e)

    pub leave_with_packed : (w : ℕ) → ArePacked g (reverse front) (below h xs ++ w ∷ [])
    leave_with_packed w = pushed_packed g (reverse front) (below h xs) leave_packed w

  -- ---- a routine begins

  module _ (k : ℕ) (within : k ≤ length v.newest.stack) (d f : Head) (after : d ≡ f) (ls ws : List ℕ) (more : List Head) (base : f.base ≡ length (take (length xs - k) xs) + 1) (count : f.count ≡ length ls) (is : ws ≡ take (length xs - k) xs ++ 0 ∷ [] ++ ls) (grows : more ≡ items ++ h ∷ []) where
    within_seen : k ≤ length (chain_of h (reverse items) xs).newest.stack
    within_seen = subst (λ (c : Chain). k ≤ length c.newest.stack) (sym seen) within

    cut_packed : ArePacked h (reverse items) (take (length xs - k) xs)
    cut_packed = popped_packed h (reverse items) xs packed k within_seen

    cut_seen : chain_of h (reverse items) (take (length xs - k) xs) ≡ with_top (drop k v.newest.stack) v
    cut_seen = popped_is h (reverse items) xs packed k within_seen ∙ ap (λ (c : Chain). with_top (drop k c.newest.stack) c) seen

    more_heads : reverse more ≡ h ∷ reverse items
    more_heads = ap reverse grows ∙ reverse-append items (h ∷ [])

    abbrev begun : Frame
    begun = record { return_place = f.return_place; result = f.result; supplied = f.supplied; locals = ls; stack = [] }

    pub enter_is : chain_of d (reverse more) ws ≡ record { newest = begun; callers = record v.newest { stack = drop k v.newest.stack } ∷ v.callers }
    enter_is =
        ap (λ (g : Head). chain_of g (reverse more) ws) after ∙ ap (λ (hs : List Head). chain_of f hs ws) more_heads ∙ ap (λ (zs : List ℕ). chain_of f (h ∷ reverse items) zs) is
        ∙ entered_is h (reverse items) (take (length xs - k) xs) ls cut_packed f base count 0
        ∙ ap (λ (c : Chain). record { newest = begun; callers = c.newest ∷ c.callers }) cut_seen

    pub enter_packed : ArePacked d (reverse more) ws
    enter_packed =
        subst (λ (g : Head). ArePacked g (reverse more) ws) (sym after) (subst (λ (hs : List Head). ArePacked f hs ws) (sym more_heads) (subst (λ (zs : List ℕ). ArePacked f (h ∷ reverse items) zs) (sym is)
        (entered_packed h (reverse items) (take (length xs - k) xs) ls cut_packed f base count 0)))

  -- ---- a frame is laid above the newest, from whose stack nothing is taken

  module _ (d f : Head) (after : d ≡ f) (ls ws : List ℕ) (more : List Head) (base : f.base ≡ length xs + 1) (count : f.count ≡ length ls) (is : ws ≡ (xs ++ 0 ∷ []) ++ ls) (grows : more ≡ items ++ h ∷ []) where
    all : take (length xs - 0) xs ≡ xs
    all = ap (λ (n : ℕ). take n xs) (omega arith) ∙ take-length xs

    base_all : f.base ≡ length (take (length xs - 0) xs) + 1
    base_all = base ∙ ap (λ (ys : List ℕ). length ys + 1) (sym all)

    words_all : ws ≡ (take (length xs - 0) xs ++ 0 ∷ []) ++ ls
    words_all = is ∙ ap (λ (ys : List ℕ). (ys ++ 0 ∷ []) ++ ls) (sym all)

    pub begin_is : chain_of d (reverse more) ws ≡ record { newest = record { return_place = f.return_place; result = f.result; supplied = f.supplied; locals = ls; stack = [] }; callers = v.newest ∷ v.callers }
    begin_is = enter_is 0 (omega arith) d f after ls ws more base_all count words_all grows

    pub begin_packed : ArePacked d (reverse more) ws
    begin_packed = enter_packed 0 (omega arith) d f after ls ws more base_all count words_all grows

-- ---- a thing in a list of heads

pub some_below : (items : List Head) (n : ℕ) (g : Head) → Some g ≡ slice_get items n → n < length items
some_below [] n g e = absurd cc
some_below (x ∷ xs) zero g e = omega arith
some_below (x ∷ xs) (suc n) g e = let h = some_below xs n g e in omega (arith, h)

pub none_above : (items : List Head) (n : ℕ) → None ≡ slice_get items n → length items ≤ n
none_above [] n e = omega arith
none_above (x ∷ xs) zero e = absurd cc
none_above (x ∷ xs) (suc n) e = let h = none_above xs n e in omega (arith, h)

-- the last of them stands behind the others
pub last_split : (items : List Head) (n : ℕ) (g : Head) → Some g ≡ slice_get items n → length items ≤ n + 1 → items ≡ take n items ++ g ∷ []
last_split items n g e last =
    sym (take_all (n + 1) items last) ∙ take_more items n g (some_below items n g e) ∙ ap (λ (y : Head). take n items ++ y ∷ []) (get_or_from_slice_get items n g g (sym e))

pub none_of : (gs : List Frame) → length gs ≡ 0 → gs ≡ []
none_of [] e = refl
none_of (g ∷ gs) e = absurd (omega (arith, e))
