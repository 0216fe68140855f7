-- One thing after another, as a loop does it.
use Rattle.std.proofs.Common.{◌≡◌, List, [], ◌∷◌, ◌++◌, Result, Ok, Err, refl, sym, ap, ◌∙◌, append_assoc}
use Rattle.std.proofs.lemmas.List.{append-nil}
use Rattle.zstate.specs.InTurn.{◌>>=◌, in_turn}

-- what was given before, and what is still to be done
abbrev pub with_front : {B S E : Type 0} → List B → Result (List B × S) E → Result (List B × S) E
with_front front r = r >>= λ x. Ok (front ++ x.0, x.1)

regroup : {B S E : Type 0} (front : List B) (b : B) (r : Result (List B × S) E) → with_front front (r >>= λ x. Ok (b ∷ x.0, x.1)) ≡ with_front (front ++ b ∷ []) r
regroup {B} front b (Ok x) = ap (λ (bs : List B). Ok (bs, x.1)) (simp append_assoc)
regroup front b (Err e) = refl

nothing_before : {B S E : Type 0} (r : Result (List B × S) E) → with_front [] r ≡ r
nothing_before (Ok x) = refl
nothing_before (Err e) = refl

pub turn_starts : {B S E : Type 0} (front : List B) (r : Result (List B × S) E) → front ≡ [] → with_front front r ≡ r
turn_starts front r p = rw p (nothing_before r)

pub turn_goes_on : {A B S E : Type 0} (f : A → S → Result (B × S) E) (front : List B) (all : List A) (a : A) (rest : List A) (s : S) (b : B) (t : S) (total : Result (List B × S) E) → all ≡ a ∷ rest → f a s ≡ Ok (b, t)
    → with_front front (in_turn f all s) ≡ total → with_front (front ++ b ∷ []) (in_turn f rest t) ≡ total
unfolding in_turn
turn_goes_on f front all a rest s b t total d h so_far =
    let one : with_front front (in_turn f all s) ≡ with_front (front ++ b ∷ []) (in_turn f rest t) = rw (d, h) (regroup front b (in_turn f rest t)) in
    sym one ∙ so_far

pub turn_fails : {A B S E : Type 0} (f : A → S → Result (B × S) E) (front : List B) (all : List A) (a : A) (rest : List A) (s : S) (e : E) (total : Result (List B × S) E) → all ≡ a ∷ rest → f a s ≡ Err e
    → with_front front (in_turn f all s) ≡ total → total ≡ Err e
unfolding in_turn
turn_fails f front all a rest s e total d h so_far =
    let one : with_front front (in_turn f all s) ≡ Err e = rw (d, h) refl in
    sym so_far ∙ one

pub turns_end : {A B S E : Type 0} (f : A → S → Result (B × S) E) (front : List B) (all : List A) (s : S) (total : Result (List B × S) E) → all ≡ [] → with_front front (in_turn f all s) ≡ total → total ≡ Ok (front, s)
unfolding in_turn
turns_end {A} {B} f front all s total d so_far =
    let one : with_front front (in_turn f all s) ≡ Ok (front, s) = rw d (ap (λ (bs : List B). Ok (bs, s)) (append-nil front)) in
    sym so_far ∙ one

-- ---- of one thing, two or three

pub first_fails : {A B S E : Type 0} (f : A → S → Result (B × S) E) (a : A) (rest : List A) (s : S) (e : E) → f a s ≡ Err e → in_turn f (a ∷ rest) s ≡ Err e
unfolding in_turn
first_fails f a rest s e h = rw h refl

pub second_fails : {A B S E : Type 0} (f : A → S → Result (B × S) E) (a b : A) (rest : List A) (s t : S) (x : B) (e : E) → f a s ≡ Ok (x, t) → f b t ≡ Err e → in_turn f (a ∷ b ∷ rest) s ≡ Err e
unfolding in_turn
second_fails f a b rest s t x e h g = rw (h, g) refl

pub third_fails : {A B S E : Type 0} (f : A → S → Result (B × S) E) (a b c : A) (rest : List A) (s t u : S) (x y : B) (e : E) → f a s ≡ Ok (x, t) → f b t ≡ Ok (y, u) → f c u ≡ Err e → in_turn f (a ∷ b ∷ c ∷ rest) s ≡ Err e
unfolding in_turn
third_fails f a b c rest s t u x y e h g k = rw (h, g, k) refl
