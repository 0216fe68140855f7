-- The attributes of a tag, one after another.
use Rattle.std.proofs.Common.{◌≡◌, ◌==◌, ◌≤◌, ◌+◌, ◌∙◌, ℕ, Bool, true, false, cond, nat_lt, nat_eq, List, [], ◌∷◌, Option, None, Some, length, refl, ap, sym, arith}
use Rattle.std.specs.List.{position_or_len, ends_with}
use Rattle.std.proofs.lemmas.List.{take_all, drop_all}
use Rattle.std.proofs.lemmas.Bool.{ltb-false}
use Rattle.std.proofs.lemmas.Option.{cond_some}
use Rattle.zdebug.specs.Cutting.{cut, parts, before, behind}
use Rattle.zdebug.specs.Reading.{attribute_in}
use Rattle.zdebug.proofs.Cuts.{parts_cut, parts_uncut, no_cut}

-- where nothing is cut, all of it stands before, and nothing behind
all_before : (byte : ℕ) (bytes : List ℕ) → cut byte bytes ≡ None → before byte bytes ≡ bytes
all_before byte bytes h =
    let no : nat_lt (position_or_len (λ b. b == byte) bytes) (length bytes) ≡ false = no_cut _ _ h in
    let past : length bytes ≤ position_or_len (λ b. b == byte) bytes = ltb-false _ _ no in
    take_all _ _ past

none_behind : (byte : ℕ) (bytes : List ℕ) → cut byte bytes ≡ None → behind byte bytes ≡ []
none_behind byte bytes h =
    let no : nat_lt (position_or_len (λ b. b == byte) bytes) (length bytes) ≡ false = no_cut _ _ h in
    let all : length bytes ≤ position_or_len (λ b. b == byte) bytes = ltb-false _ _ no in
    let past : length bytes ≤ position_or_len (λ b. b == byte) bytes + 1 = omega arith in
    drop_all _ _ past

-- behind a quote the value reaches up to the next, and others may stand behind that
value_in : (name front back : List ℕ) (found : Option (List ℕ × List ℕ)) → found ≡ cut 34 back → attribute_in name (front ∷ parts 34 back) ≡ cond (ends_with nat_eq front name) (Some (before 34 back)) (attribute_in name (parts 34 (behind 34 back)))
value_in name front back None h =
    let rest : parts 34 (behind 34 back) ≡ [] ∷ [] = ap (parts 34) (none_behind 34 back (sym h)) in
    ap (λ (l : List (List ℕ)). attribute_in name (front ∷ l)) (parts_uncut 34 back (sym h))
    ∙ (ap (λ (l : List ℕ). cond (ends_with nat_eq front name) (Some l) None) (sym (all_before 34 back (sym h)))
    ∙ ap (λ (l : List (List ℕ)). cond (ends_with nat_eq front name) (Some (before 34 back)) (attribute_in name l)) (sym rest))
value_in name front back (Some p) h =
    let q = cond_some _ _ _ (sym h) in
    ap (λ (l : List (List ℕ)). attribute_in name (front ∷ l)) (parts_cut 34 back (before 34 back) (behind 34 back) (sym h ∙ ap Some (sym q.1)))

attribute_more : (name bytes front back : List ℕ) → Some (front, back) ≡ cut 34 bytes → attribute_in name (parts 34 bytes) ≡ cond (ends_with nat_eq front name) (Some (before 34 back)) (attribute_in name (parts 34 (behind 34 back)))
attribute_more name bytes front back h =
    ap (attribute_in name) (parts_cut 34 bytes front back (sym h)) ∙ value_in name front back (cut 34 back) refl

pub attribute_none : (name bytes : List ℕ) → None ≡ cut 34 bytes → attribute_in name (parts 34 bytes) ≡ None
attribute_none name bytes h = ap (attribute_in name) (parts_uncut 34 bytes (sym h))

-- the value is there, or others may be behind it
pub attribute_here : (name bytes front back : List ℕ) → Some (front, back) ≡ cut 34 bytes → ends_with nat_eq front name ≡ true → attribute_in name (parts 34 bytes) ≡ Some (before 34 back)
attribute_here name bytes front back h here =
    attribute_more name bytes front back h ∙ ap (λ (b : Bool). cond b (Some (before 34 back)) (attribute_in name (parts 34 (behind 34 back)))) here

pub attribute_further : (name bytes front back : List ℕ) → Some (front, back) ≡ cut 34 bytes → ends_with nat_eq front name ≡ false → attribute_in name (parts 34 bytes) ≡ attribute_in name (parts 34 (behind 34 back))
attribute_further name bytes front back h further =
    attribute_more name bytes front back h ∙ ap (λ (b : Bool). cond b (Some (before 34 back)) (attribute_in name (parts 34 (behind 34 back)))) further
