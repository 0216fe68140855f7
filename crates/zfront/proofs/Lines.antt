-- Lines, told part by part.
use Rattle.std.proofs.Common.{◌≡◌, ◌==◌, ◌≤◌, ◌+◌, ◌∙◌, ℕ, suc, Bool, true, false, cond, not, List, [], ◌∷◌, ◌++◌, None, Some, Option, length, map, refl, sym, ap, subst, append_assoc, append-nil, arith}
use Rattle.std.specs.Prelude.{position, if◌then◌else◌}
use Rattle.std.specs.List.{slice_split, onto_first, join_with_byte}
use Rattle.std.proofs.lemmas.Bool.{ltb-false}
use Rattle.std.proofs.lemmas.Option.{cond_some}
use Rattle.zfront.specs.Sourced.{Known, address_at, is_end, end_of, member_told, object_told, own_address, pair_told, parts, told_or, words_told}
use Rattle.zfront.specs.Told.{left_parts, left_told, space_before, words_joined}

-- ---- parts

-- there is at least one
split_step : (b : Bool) (x : ℕ) (others : List (List ℕ)) → (first : List ℕ) × (rest : List (List ℕ)) × (others ≡ first ∷ rest) → (first : List ℕ) × (rest : List (List ℕ)) × (cond b ([] ∷ others) (onto_first x others) ≡ first ∷ rest)
split_step true x others more = ([], others, refl)
split_step false x others (first, rest, is) = (x ∷ first, rest, ap (onto_first x) is)

pub some_parts : (p : ℕ → Bool) (line : List ℕ) → (first : List ℕ) × (rest : List (List ℕ)) × (slice_split p line ≡ first ∷ rest)
some_parts p [] = ([], [], refl)
some_parts p (x ∷ line) = split_step (p x) x (slice_split p line) (some_parts p line)

-- ---- words

join_or : (x : List ℕ) (told : Option (List ℕ)) (word : List ℕ) (both one : List (List ℕ)) → join_with_byte 32 (x ∷ told_or told word both one) ≡ x ++ (32 ∷ join_with_byte 32 (told_or told word both one))
join_or x None word both one = refl
join_or x (Some text) word both one = refl

join_told : (known : Known) (x next : List ℕ) (rest : List (List ℕ)) → join_with_byte 32 (x ∷ words_told known (next ∷ rest)) ≡ x ++ (32 ∷ join_with_byte 32 (words_told known (next ∷ rest)))
join_told known x next [] = refl
join_told known x next (other ∷ rest) = join_or x (pair_told known next other) next (words_told known rest) (words_told known (other ∷ rest))

-- what is told, and what is left behind it
join_left : (known : Known) (x : List ℕ) (left : Option (List ℕ)) → join_with_byte 32 (x ∷ words_told known (left_parts left)) ≡ x ++ (space_before left ++ left_told known left)
join_left known x None = sym (append-nil x)
join_left known x (Some line) =
    let some = some_parts (λ b. b == 32) line in
    subst (λ (ps : List (List ℕ)). join_with_byte 32 (x ∷ words_told known ps) ≡ x ++ (32 ∷ join_with_byte 32 (words_told known ps))) (sym some.2) (join_told known x some.0 some.1)

pub front_last : (known : Known) (old line word : List ℕ) → parts 32 line ≡ word ∷ [] → old ++ left_told known (Some line) ≡ (old ++ word) ++ left_told known None
front_last known old line word is = ap (λ (ps : List (List ℕ)). old ++ join_with_byte 32 (words_told known ps)) is ∙ sym (append-nil (old ++ word))

pub front_more : (known : Known) (old new line word behind : List ℕ) (left : Option (List ℕ)) → parts 32 line ≡ word ∷ parts 32 behind → old ++ words_joined known (word ∷ parts 32 behind) ≡ new ++ left_told known left
    → old ++ left_told known (Some line) ≡ new ++ left_told known left
front_more known old new line word behind left is told = ap (λ (ps : List (List ℕ)). old ++ words_joined known ps) is ∙ told

pub front_one : (known : Known) (old word behind next : List ℕ) (others : Option (List ℕ)) → parts 32 behind ≡ next ∷ left_parts others → pair_told known word next ≡ None
    → old ++ words_joined known (word ∷ parts 32 behind) ≡ ((old ++ word) ++ 32 ∷ []) ++ left_told known (Some behind)
front_one known old word behind next others is none =
    let words : words_told known (word ∷ parts 32 behind) ≡ word ∷ words_told known (next ∷ left_parts others) =
    ap (λ (ps : List (List ℕ)). words_told known (word ∷ ps)) is ∙ ap (λ (o : Option (List ℕ)). told_or o word (words_told known (left_parts others)) (words_told known (next ∷ left_parts others))) none in
    let back : words_told known (next ∷ left_parts others) ≡ words_told known (parts 32 behind) = ap (words_told known) (sym is) in
    ap (λ (ps : List (List ℕ)). old ++ join_with_byte 32 ps) (words ∙ ap (λ (ps : List (List ℕ)). word ∷ ps) back) ∙ ap (λ (l : List ℕ). old ++ l) (join_left known word (Some behind))
    ∙ sym (append_assoc old word (32 ∷ left_told known (Some behind))) ∙ sym (append_assoc (old ++ word) (32 ∷ []) (left_told known (Some behind)))

pub front_two : (known : Known) (old word behind next text : List ℕ) (others : Option (List ℕ)) → parts 32 behind ≡ next ∷ left_parts others → pair_told known word next ≡ Some text
    → old ++ words_joined known (word ∷ parts 32 behind) ≡ ((old ++ text) ++ space_before others) ++ left_told known others
front_two known old word behind next text others is some =
    let words : words_told known (word ∷ parts 32 behind) ≡ text ∷ words_told known (left_parts others) =
    ap (λ (ps : List (List ℕ)). words_told known (word ∷ ps)) is ∙ ap (λ (o : Option (List ℕ)). told_or o word (words_told known (left_parts others)) (words_told known (next ∷ left_parts others))) some in
    ap (λ (ps : List (List ℕ)). old ++ join_with_byte 32 ps) words ∙ ap (λ (l : List ℕ). old ++ l) (join_left known text others)
    ∙ sym (append_assoc old text (space_before others ++ left_told known others)) ∙ sym (append_assoc (old ++ text) (space_before others) (left_told known others))

-- where a line has one word alone, and where it has more
pub own_none : (line word : List ℕ) → parts 32 line ≡ word ∷ [] → own_address (parts 32 line) ≡ None
own_none line word is = ap own_address is

pub own_some : (line word behind : List ℕ) → parts 32 line ≡ word ∷ parts 32 behind → own_address (parts 32 line) ≡ (if length word == 5 then address_at word else None)
own_some line word behind is =
    let some = some_parts (λ b. b == 32) behind in
    ap own_address (is ∙ ap (λ (ps : List (List ℕ)). word ∷ ps) some.2)

-- ---- objects

pub object_uncut : (known : Known) (old line : List ℕ) → parts 44 line ≡ line ∷ [] → old ++ object_told known line ≡ old ++ member_told known line
object_uncut known old line is = ap (λ (ps : List (List ℕ)). old ++ join_with_byte 44 (map (member_told known) ps)) is

pub object_cut : (known : Known) (old line part behind : List ℕ) → parts 44 line ≡ part ∷ parts 44 behind → old ++ object_told known line ≡ ((old ++ member_told known part) ++ 44 ∷ []) ++ object_told known behind
object_cut known old line part behind is =
    let some = some_parts (λ b. b == 44) behind in
    let joined : join_with_byte 44 (member_told known part ∷ map (member_told known) (parts 44 behind)) ≡ member_told known part ++ (44 ∷ object_told known behind) =
    subst (λ (ps : List (List ℕ)). join_with_byte 44 (member_told known part ∷ map (member_told known) ps) ≡ member_told known part ++ (44 ∷ join_with_byte 44 (map (member_told known) ps))) (sym some.2) refl in
    ap (λ (ps : List (List ℕ)). old ++ join_with_byte 44 (map (member_told known) ps)) is ∙ ap (λ (l : List ℕ). old ++ l) joined
    ∙ sym (append_assoc old (member_told known part) (44 ∷ object_told known behind)) ∙ sym (append_assoc (old ++ member_told known part) (44 ∷ []) (object_told known behind))

-- ---- ends

end_step : (b : Bool) (n m : ℕ) → n ≤ m → cond (not b) (1 + n) 0 ≤ suc m
end_step true n m within = omega arith
end_step false n m within = omega (arith, within)

end_within : (line : List ℕ) → end_of line ≤ length line
end_within [] = omega arith
end_within (x ∷ line) = end_step (is_end x) (end_of line) (length line) (end_within line)

no_place : {A : Type 0} (b : Bool) (x : A) → cond b (Some x) None ≡ None → b ≡ false
no_place true x h = cc
no_place false x h = refl

pub end_none : (line : List ℕ) → position (λ b. b == 10) line ≡ None → length line ≡ end_of line
end_none line none =
    let past : length line ≤ end_of line = ltb-false (end_of line) (length line) (no_place _ _ none) in
    let within : end_of line ≤ length line = end_within line in
    omega arith

pub end_some : (line : List ℕ) (place : ℕ) → position (λ b. b == 10) line ≡ Some place → place ≡ end_of line
end_some line place some = let p = cond_some _ _ _ some in sym p.1
