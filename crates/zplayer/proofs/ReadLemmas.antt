-- Bytes that are read ahead, and the lines that they make.
use Rattle.std.proofs.Common.{◌≡◌, ◌≢◌, ◌⊎◌, inl, inr, ℕ, zero, suc, ◌+◌, ◌-◌, ◌^◌, ◌<◌, ◌≤◌, Bool, true, false, List, [], ◌∷◌, ◌++◌, length, take, Option, Some, None, refl, sym, ap, subst, ◌∙◌, arith, append_assoc}
use Rattle.std.specs.Prelude.{◌==◌, slice_index, if◌then◌else◌}
use Rattle.std.specs.Io.KnownBytes.{Consumes, IsAtEnd, Keeps, prepend_known}
use Rattle.std.proofs.KnownBytes.{Consumes-nil, Consumes-trans, Consumes-kept, Keeps-refl, prepend_known-nil}
use Rattle.std.proofs.lemmas.Bool.{cases_lt}
use Rattle.std.proofs.lemmas.List.{append-nil, length-append, take-append-le, take-take, take_all, length-take-le}
use Rattle.std.proofs.lemmas.List.Elements.{All-nil, All-push}
use Rattle.zplayer.specs.declared.lines.LineEnd.{LineEnd}
use Rattle.zplayer.specs.declared.lines.LineEnd.TheVariants.{Newline, Input}
use Rattle.zplayer.specs.Lines.{Hears, IsUnbroken, Takes, line_of, without_return}

-- ---- a byte

-- nothing was held
pub none_held : (held : List ℕ) (a b : Option (List ℕ)) → held ≡ [] → Keeps a b → Keeps (prepend_known held a) b
none_held held a b none kept = subst (λ (x : Option (List ℕ)). Keeps x b) (sym (prepend_known-nil a) ∙ ap (λ (h : List ℕ). prepend_known h a) (sym none)) kept

pub all_kept : (a : Option (List ℕ)) → Keeps a a
all_kept a = Keeps-refl a

-- the first byte of what is held is taken
pub one_taken : (byte : ℕ) (held rest : List ℕ) (a b : Option (List ℕ)) → held ≡ byte ∷ rest → Keeps a (prepend_known held b) → Consumes a (prepend_known rest b) (byte ∷ [])
one_taken byte held rest None b is kept = tt
one_taken byte held rest (Some x) None is kept = absurd kept
one_taken byte held rest (Some x) (Some y) is kept = sym kept ∙ ap (λ (h : List ℕ). h ++ y) is

-- none is held, and the reader has none
pub none_left : (held : List ℕ) (b : Option (List ℕ)) → held ≡ [] → IsAtEnd b → IsAtEnd (prepend_known held b)
none_left held None none end = tt
none_left held (Some y) none end = ap (λ (h : List ℕ). h ++ y) none ∙ end

kept_none : (a b : Option (List ℕ)) → Keeps a b → Consumes a b []
kept_none a b kept = Consumes-kept a a b [] (Consumes-nil a) kept

-- ---- the front of a line

-- where there is no room, a byte more is dropped
pub kept_full : (n : ℕ) (xs ys : List ℕ) → length xs ≡ n → xs ≡ take n (xs ++ ys)
kept_full n xs ys full = sym (take-append-le n xs ys (omega (arith, full)) ∙ take_all n xs (omega (arith, full)))

pub kept_more : (n byte : ℕ) (xs : List ℕ) → length xs < n → xs ++ byte ∷ [] ≡ take n (xs ++ byte ∷ [])
kept_more n byte xs room = sym (take_all n (xs ++ byte ∷ []) (rw length-append (omega (arith, room))))

-- what is behind the front doesn't count
take_over : (n : ℕ) (xs ys : List ℕ) → take n (take n xs ++ ys) ≡ take n (xs ++ ys)
take_over zero xs ys = refl
take_over (suc n) [] ys = refl
take_over (suc n) (x ∷ xs) ys = ap (λ (l : List ℕ). x ∷ l) (take_over n xs ys)

take_less : (n : ℕ) (xs : List ℕ) → take n (take (suc n) xs) ≡ take n xs
take_less zero xs = refl
take_less (suc n) [] = refl
take_less (suc n) (x ∷ xs) = ap (λ (l : List ℕ). x ∷ l) (take_less n xs)

-- a return that is behind what a line has isn't of it anyhow
chosen : (n : ℕ) (b : Bool) (xs : List ℕ) → n < length xs → take n (if b then take (length xs - 1) xs else xs) ≡ take n xs
chosen n true xs long = take-take n (length xs - 1) xs (omega (arith, long))
chosen n false xs long = refl

front_decides : (n : ℕ) (xs : List ℕ) → take n (without_return (take (suc n) xs)) ≡ take n (without_return xs)
front_decides n xs = go (cases_lt (suc n) (length xs))
  where
    returns : List ℕ → Bool
    returns l = slice_index l (length l - 1) == 13

    front : List ℕ
    front = take (suc n) xs

    go : (suc n < length xs) ⊎ (length xs ≤ suc n) → take n (without_return (take (suc n) xs)) ≡ take n (without_return xs)
    go (inr short) = ap (λ (l : List ℕ). take n (without_return l)) (take_all (suc n) xs short)
    go (inl long) =
        chosen n (returns front) front (rw (length-take-le (suc n) xs (omega (arith, long))) (omega arith)) ∙ take_less n xs ∙ sym (chosen n (returns xs) xs (omega (arith, long)))

-- ---- the bytes of a line so far

pub record SoFar (old now : Option (List ℕ)) (kept : List ℕ) (turns : ℕ) : Type 0 where
  pub text : List ℕ
  pub taken : Consumes old now text
  pub unbroken : IsUnbroken text
  pub kept_is : kept ≡ take 255 text
  pub count : length text + turns ≡ 2 ^ 64 - 1

pub begins : (a : Option (List ℕ)) → SoFar a a [] (2 ^ 64 - 1)
begins a = record { text = []; taken = Consumes-nil a; unbroken = All-nil (λ byte. byte ≢ 10); kept_is = refl; count = refl }

module _ (old mid now : Option (List ℕ)) (kept new : List ℕ) (turns : ℕ) (so_far : SoFar old mid kept turns) where
  pub goes_on : 0 < turns → Takes mid now kept new None → SoFar old now new (turns - 1)
  goes_on some (byte, taken, other, is) = record {
    text = so_far.text ++ byte ∷ [];
    taken = Consumes-trans old mid now so_far.text (byte ∷ []) so_far.taken taken;
    unbroken = All-push (λ b. b ≢ 10) so_far.text byte so_far.unbroken other;
    kept_is = is ∙ ap (λ (l : List ℕ). take 255 (l ++ byte ∷ [])) so_far.kept_is ∙ take_over 255 so_far.text (byte ∷ []);
    count = rw length-append (omega (arith, so_far.count, some));
  }

  whole_line : (line : List ℕ) → line ≡ take 254 (without_return so_far.text) → (a b : Option (List ℕ)) → Consumes a b (so_far.text ++ 10 ∷ []) → Hears a (Some line) b
  whole_line line is None b taken = tt
  whole_line line is (Some bytes) None taken = absurd taken
  whole_line line is (Some bytes) (Some rest) taken = λ few. inl (record { text = so_far.text; whole = taken ∙ append_assoc so_far.text (10 ∷ []) rest; unbroken = so_far.unbroken; line_is = is })

  -- the input ends, or no more is taken of it
  last_line : (byte : ℕ) (line : List ℕ) (a b : Option (List ℕ)) → byte ∷ line ≡ take 255 so_far.text → Consumes a b so_far.text → IsAtEnd b → Hears a (Some (take 254 (byte ∷ line))) b
  last_line byte line None b is taken end = tt
  last_line byte line (Some bytes) None is taken end = absurd taken
  last_line byte line (Some bytes) (Some rest) is taken end =
      let all : bytes ≡ so_far.text = taken ∙ ap (λ (l : List ℕ). so_far.text ++ l) end ∙ append-nil so_far.text in
      λ few. inr (record {
        some = λ none. absurd (nothing so_far.text byte line (sym all ∙ none) is);
        unbroken = subst IsUnbroken (sym all) so_far.unbroken;
        line_is = ap (take 254) is ∙ take_less 254 so_far.text ∙ ap (take 254) (sym all);
        rest_is = end;
      })
    where
      nothing : (text : List ℕ) (byte : ℕ) (line : List ℕ) → text ≡ [] → byte ∷ line ≡ take 255 text → ⊥
      nothing text byte line none is = let e : byte ∷ line ≡ [] = is ∙ ap (take 255) none in cc

  no_line : (text : List ℕ) (a b : Option (List ℕ)) → [] ≡ take 255 text → Consumes a b text → IsAtEnd b → IsAtEnd a
  no_line [] None b is taken end = tt
  no_line [] (Some bytes) None is taken end = absurd taken
  no_line [] (Some bytes) (Some rest) is taken end = taken ∙ end
  no_line (x ∷ text) a b is taken end = absurd cc

  by_kept : (line : List ℕ) → line ≡ take 255 so_far.text → Consumes old now so_far.text → IsAtEnd now → Hears old (line_of line Input) now
  by_kept [] is taken end = no_line so_far.text old now is taken end
  by_kept (byte ∷ line) is taken end = last_line byte line old now is taken end

  pub ends : (end : LineEnd) → Takes mid now kept new (Some end) → (line : Option (List ℕ)) → line ≡ line_of new end → Hears old line now
  ends Newline (taken, same) line is =
      rw is (whole_line (take 254 (without_return new)) (ap (λ (l : List ℕ). take 254 (without_return l)) (same ∙ so_far.kept_is) ∙ front_decides 254 so_far.text) old now (Consumes-trans old mid now so_far.text (10 ∷ []) so_far.taken taken))
  ends Input (taken, end, same) line is =
      rw is (by_kept new (same ∙ so_far.kept_is) (subst (Consumes old now) (append-nil so_far.text) (Consumes-trans old mid now so_far.text [] so_far.taken taken)) end)

-- as many bytes as a u64 counts
module _ (old now : Option (List ℕ)) (kept : List ℕ) (so_far : SoFar old now kept 0) where
  too_long : (line : List ℕ) (a b : Option (List ℕ)) → Consumes a b so_far.text → Hears a (Some line) b
  too_long line None b taken = tt
  too_long line (Some bytes) None taken = absurd taken
  too_long line (Some bytes) (Some rest) taken =
      let all : length bytes ≡ length so_far.text + length rest = ap length taken ∙ length-append so_far.text rest in
      λ few. absurd (omega (arith, few, all, so_far.count))

  some_kept : (line : List ℕ) → line ≡ take 255 so_far.text → Hears old (line_of line Input) now
  some_kept [] is = absurd (let e : 0 ≡ 255 = ap length is ∙ length-take-le 255 so_far.text (omega (arith, so_far.count)) in omega (arith, e))
  some_kept (byte ∷ line) is = too_long (take 254 (byte ∷ line)) old now so_far.taken

  pub ends_too_late : (line : Option (List ℕ)) → line ≡ line_of kept Input → Hears old line now
  ends_too_late line is = rw is (some_kept kept so_far.kept_is)
