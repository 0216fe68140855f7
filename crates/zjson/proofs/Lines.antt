-- The tokens of members, and how they read back.
use Rattle.std.proofs.Common.{◌≡◌, ◌≤◌, ℕ, List, [], ◌∷◌, ◌++◌, refl, sym, ap, ◌∙◌, subst, arith, append_assoc, length, take}
use Rattle.std.specs.Prelude.{Some, option_and_then, flat_map}
use Rattle.std.proofs.lemmas.List.{append-nil, take_all}
use Rattle.json.specs.Token.{Token, end_object, begin_object}
use Rattle.json.specs.Lex.{tokens}
use Rattle.json.specs.Json.{Json, document, if_last, max_depth, value}
use Rattle.json.specs.Json as json
use Rattle.json.specs.Print.{IsNumber}
use Rattle.json.specs.Tree.{HasNumbers, MembersHaveNumbers, json_tokens, members_tokens, depth, members_depth}
use Rattle.json.proofs.Printed.Decimals.{IsNumber-decimal}
use Rattle.json.proofs.Printed.Trees.{document-print, value-json_tokens}
use Rattle.zjson.specs.Objects.{ArePlain, IsPlain, Pair, members_of, object_of, object_text, pair_of, pair_tokens, pairs_of, value_of}
use Rattle.zjson.specs.declared.object.Value.{Value}
use Rattle.zjson.specs.declared.object.Value.TheVariants.{Text, Number, Flag, Nothing}
use Rattle.zjson.specs.declared.object.Member.{Member}

-- what is written of members one after another, with the closing bracket, is what is written of all
closed : (ms : List Member) → members_tokens (members_of (pairs_of ms)) ≡ flat_map (λ m. pair_tokens (pair_of m)) ms ++ end_object ∷ []
closed [] = refl
closed (m ∷ ms) = ap (λ l. pair_tokens (pair_of m) ++ l) (closed ms) ∙ sym (append_assoc (pair_tokens (pair_of m)) (flat_map (λ n. pair_tokens (pair_of n)) ms) (end_object ∷ []))

flat : (v : Value) → depth (value_of v) ≡ 0
flat (Text text) = refl
flat (Number number) = refl
flat (Flag flag) = refl
flat Nothing = refl

shallow : (ms : List Member) → members_depth (members_of (pairs_of ms)) ≡ 0
shallow [] = refl
shallow (m ∷ ms) = omega (arith, flat m.value, shallow ms)

-- text whose tokens are found again reads as the object
pub reads : (ms : List Member) → tokens (object_text (pairs_of ms)) ≡ json_tokens (object_of (pairs_of ms)) → document (object_text (pairs_of ms)) ≡ Some (object_of (pairs_of ms))
reads ms back =
    ap (option_and_then (λ p. if_last p.0 p.1))
    (ap (value max_depth) (back ∙ sym (append-nil (json_tokens (object_of (pairs_of ms))))) ∙ value-json_tokens (object_of (pairs_of ms)) max_depth [] (omega (arith, shallow ms)))

-- an object is an opening bracket, its members, and the closing one
pub whole :
    (old before after : List Token) (n : ℕ) (ms : List Member) → length ms ≤ n → before ≡ (old ++ begin_object ∷ []) ++ flat_map (λ m. pair_tokens (pair_of m)) (take n ms) → after ≡ before ++ end_object ∷ []
    → after ≡ old ++ json_tokens (object_of (pairs_of ms))
whole old before after n ms all members end =
    end ∙ ap (λ l. l ++ end_object ∷ []) (members ∙ ap (λ l. (old ++ begin_object ∷ []) ++ flat_map (λ m. pair_tokens (pair_of m)) l) (take_all n ms all))
    ∙ append_assoc (old ++ begin_object ∷ []) (flat_map (λ m. pair_tokens (pair_of m)) ms) (end_object ∷ []) ∙ append_assoc old (begin_object ∷ []) (flat_map (λ m. pair_tokens (pair_of m)) ms ++ end_object ∷ [])
    ∙ ap (λ l. old ++ begin_object ∷ l) (sym (closed ms))

-- ---- of any members with plain values

numbers_in : (j : Json) → IsPlain j → HasNumbers j × (depth j ≡ 0)
numbers_in json.null plain = (tt, refl)
numbers_in (json.boolean flag) plain = (tt, refl)
numbers_in (json.number text) plain = (subst IsNumber (sym plain.2) (IsNumber-decimal plain.0 plain.1), refl)
numbers_in (json.string text) plain = (tt, refl)
numbers_in (json.array _) plain = absurd plain
numbers_in (json.object _) plain = absurd plain

numbers : (ps : List Pair) → ArePlain ps → MembersHaveNumbers (members_of ps) × (members_depth (members_of ps) ≡ 0)
numbers [] plain = (tt, refl)
numbers (p ∷ ps) plain =
    let first = numbers_in p.1 plain.0 in
    let others = numbers ps plain.1 in
    ((first.0, others.0), omega (arith, first.1, others.1))

pub reads_back : (ps : List Pair) → ArePlain ps → document (object_text ps) ≡ Some (object_of ps)
reads_back ps plain =
    let all = numbers ps plain in
    document-print (object_of ps) all.0 (omega (arith, all.1))
