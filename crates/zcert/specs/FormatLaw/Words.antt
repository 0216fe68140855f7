-- Words that rise, as they are read.
use Rattle.std.proofs.Common.{◌≡◌, ℕ, zero, suc, ◌+◌, ◌<◌, ◌≤◌, Bool, true, false, List, [], ◌∷◌, ◌++◌, length, Result, Ok, Err, refl, sym, ap, subst, ◌∙◌, append_assoc, append-nil, arith}
use Rattle.std.specs.Prelude.{◌&&◌, nat_le, nat_lt}
use Rattle.std.specs.List.{flat_map, AllByRecursion}
use Rattle.std.proofs.lemmas.Bool.{ltb-true, lt-ltb, le-leb}
use Rattle.zdomain.specs.Few.{turned, rises_behind, rises}
use Rattle.zcert.specs.declared.error.CertError.{CertError}
use Rattle.zcert.specs.declared.error.CertError.TheVariants.{Order}
use Rattle.zcert.specs.Numbers.{Word, number, HasRoom}
use Rattle.zcert.specs.Steps.{◌>>=◌, need, number_at}
use Rattle.zcert.specs.Lists.{words_at}
use Rattle.zcert.specs.Coming.{are_from, floor_behind}
use Rattle.zcert.specs.FormatLaw.{IsBytes, Takes, IsPlain}
use Rattle.zcert.specs.FormatLaw.Steady.{IsSteady, steady_then, steady_need, steady_sized}
use Rattle.zcert.specs.FormatLaw.Stepping.{Takes-then, bind_ok, need_ok, ok_is, number_takes, number_again, plain_then, plain_ok, plain_need, plain_sized}

-- ---- what is read is spelled so

abbrev AreTaken : ℕ → List ℕ → List ℕ × List ℕ → Type 0
AreTaken n bytes found = Takes bytes (flat_map (number Word) found.0) found.1 × AllByRecursion (HasRoom Word) found.0 × (length found.0 ≡ n)

pub words_take : (n floor : ℕ) (bytes words rest : List ℕ) → IsBytes bytes → words_at n floor bytes ≡ Ok (words, rest) → AreTaken n bytes (words, rest)
unfolding words_at
words_take zero floor bytes words rest fits e = subst (AreTaken zero bytes) (ok_is ([], bytes) (words, rest) e) (record { parts = refl; rest_fits = fits }, tt, refl)
words_take (suc n) floor bytes words rest fits e =
    let a = bind_ok (number_at Word bytes) (λ word. need (nat_le floor (turned word.0)) Order >>= λ _. words_at n (turned word.0 + 1) word.1 >>= λ ws. Ok (word.0 ∷ ws.0, ws.1)) (words, rest) e in
    let word = a.0.0 in
    let b = need_ok (nat_le floor (turned word)) Order (λ _. words_at n (turned word + 1) a.0.1 >>= λ ws. Ok (word ∷ ws.0, ws.1)) (words, rest) a.2 in
    let c = bind_ok (words_at n (turned word + 1) a.0.1) (λ ws. Ok (word ∷ ws.0, ws.1)) (words, rest) b.1 in
    let first = number_takes Word bytes word a.0.1 fits a.1 in
    let others = words_take n (turned word + 1) a.0.1 c.0.0 c.0.1 first.0.rest_fits c.1 in
    let made : List ℕ × List ℕ = (word ∷ c.0.0, c.0.1) in
    subst (AreTaken (suc n) bytes) {x = made} (ok_is made (words, rest) c.2) (
      Takes-then bytes (number Word word) a.0.1 (flat_map (number Word) c.0.0) c.0.1 first.0 others.0,
      (first.1, others.1),
      ap suc others.2,
    )

-- ---- what is spelled so is read

both_true : (a b : Bool) → (a && b) ≡ true → (a ≡ true) × (b ≡ true)
both_true true b e = (refl, e)
both_true false b e = absurd cc

bind_same : (r : Result (List ℕ × List ℕ) CertError) → (r >>= λ x. Ok (x.0, x.1)) ≡ r
bind_same (Ok x) = refl
bind_same (Err d) = refl

-- words before those that were read
abbrev pub before : List ℕ → List ℕ × List ℕ → Result (List ℕ × List ℕ) CertError
before xs read = Ok (xs ++ read.0, read.1)

bind_behind : (x : ℕ) (xs : List ℕ) (r : Result (List ℕ × List ℕ) CertError) → ((r >>= before xs) >>= before (x ∷ [])) ≡ (r >>= before (x ∷ xs))
bind_behind x xs (Ok y) = refl
bind_behind x xs (Err d) = refl

-- a word that rises, and those behind it
pub one_word : (n floor x : ℕ) (rest : List ℕ) → HasRoom Word x → nat_le floor (turned x) ≡ true → words_at (suc n) floor (number Word x ++ rest) ≡ (words_at n (turned x + 1) rest >>= before (x ∷ []))
unfolding words_at
one_word n floor x rest room up = rw (number_again Word x rest room, up) refl

-- a word that doesn't rise
pub no_word : (n floor x : ℕ) (rest : List ℕ) → HasRoom Word x → nat_le floor (turned x) ≡ false → words_at (suc n) floor (number Word x ++ rest) ≡ Err Order
unfolding words_at
no_word n floor x rest room up = rw (number_again Word x rest room, up) refl

-- behind words that rise others are read as by themselves
pub words_again : (words : List ℕ) (floor m : ℕ) (rest : List ℕ) → are_from floor words ≡ true → words_at (length words + m) floor (flat_map (number Word) words ++ rest) ≡ (words_at m (floor_behind floor words) rest >>= before words)
unfolding are_from floor_behind
words_again [] floor m rest up =
    let none : 0 + m ≡ m = omega arith in
    ap (λ n. words_at n floor rest) none ∙ sym (bind_same (words_at m floor rest))
words_again (x ∷ xs) floor m rest up =
    let first = both_true (nat_lt x 65536) (nat_le floor (turned x) && are_from (turned x + 1) xs) up in
    let second = both_true (nat_le floor (turned x)) (are_from (turned x + 1) xs) first.1 in
    let others = words_again xs (turned x + 1) m rest second.1 in
    let one_more : length (x ∷ xs) + m ≡ suc (length xs + m) = omega arith in
    ap (λ n. words_at n floor (flat_map (number Word) (x ∷ xs) ++ rest)) one_more
    ∙ ap (words_at (suc (length xs + m)) floor) (append_assoc (number Word x) (flat_map (number Word) xs) rest)
    ∙ one_word (length xs + m) floor x (flat_map (number Word) xs ++ rest) (ltb-true x 65536 first.0) second.0
    ∙ ap (λ r. r >>= before (x ∷ [])) others
    ∙ bind_behind x xs (words_at m (floor_behind (turned x + 1) xs) rest)

-- and by themselves
pub words_whole : (words rest : List ℕ) → are_from 0 words ≡ true → words_at (length words) 0 (flat_map (number Word) words ++ rest) ≡ Ok (words, rest)
unfolding words_at
words_whole words rest up =
    let none : length words ≡ length words + 0 = omega arith in
    ap (λ n. words_at n 0 (flat_map (number Word) words ++ rest)) none ∙ words_again words 0 0 rest up ∙ rw (append-nil words) refl

-- ---- words that rise

-- one more
pub one_more : (words : List ℕ) (floor x : ℕ) → are_from floor words ≡ true → x < 65536 → floor_behind floor words ≤ turned x → (are_from floor (words ++ x ∷ []) ≡ true) × (floor_behind floor (words ++ x ∷ []) ≡ turned x + 1)
unfolding are_from floor_behind
one_more [] floor x up room le = (rw (lt-ltb x 65536 room, le-leb floor (turned x) le) refl, refl)
one_more (y ∷ ys) floor x up room le =
    let first = both_true (nat_lt y 65536) (nat_le floor (turned y) && are_from (turned y + 1) ys) up in
    let second = both_true (nat_le floor (turned y)) (are_from (turned y + 1) ys) first.1 in
    let others = one_more ys (turned y + 1) x second.1 room le in
    (rw (first.0, second.0, others.0) refl, others.1)

rise_behind : (x : ℕ) (words : List ℕ) → rises_behind x words ≡ true → AllByRecursion (HasRoom Word) words → are_from (turned x + 1) words ≡ true
unfolding rises_behind are_from
rise_behind x [] up room = refl
rise_behind x (y ∷ ys) up room =
    let first = both_true (nat_lt (turned x) (turned y)) (rises_behind y ys) up in
    rw (lt-ltb y 65536 room.0, le-leb (turned x + 1) (turned y) (omega (arith, ltb-true (turned x) (turned y) first.0))) (rise_behind y ys first.1 room.1)

-- words that rise do so from the lowest on
pub all_rise : (words : List ℕ) → rises words ≡ true → AllByRecursion (HasRoom Word) words → are_from 0 words ≡ true
unfolding are_from
all_rise [] up room = refl
all_rise (x ∷ xs) up room = rw (lt-ltb x 65536 room.0, le-leb 0 (turned x) (omega arith)) (rise_behind x xs up room.1)

-- ---- reading them wants no memory, and what isn't cut off stays

pub plain_words : (n floor : ℕ) (bytes : List ℕ) → IsPlain (words_at n floor bytes)
unfolding words_at
plain_words zero floor bytes = plain_ok ([], bytes)
plain_words (suc n) floor bytes =
    plain_then (number_at Word bytes) _ (plain_sized 2 bytes) (λ word.
    plain_then (need (nat_le floor (turned word.0)) Order) _ (plain_need (nat_le floor (turned word.0)) Order (λ e. absurd cc)) (λ _.
    plain_then (words_at n (turned word.0 + 1) word.1) _ (plain_words n (turned word.0 + 1) word.1) (λ ws. plain_ok (word.0 ∷ ws.0, ws.1))))

pub steady_words : (n floor : ℕ) → IsSteady (words_at n floor)
unfolding words_at
steady_words zero floor = λ bytes more whole. refl
steady_words (suc n) floor =
    steady_then (number_at Word) (λ word bytes. need (nat_le floor (turned word)) Order >>= λ _. words_at n (turned word + 1) bytes >>= λ ws. Ok (word ∷ ws.0, ws.1)) (steady_sized 2) (λ word.
    steady_need (nat_le floor (turned word)) Order (λ bytes. words_at n (turned word + 1) bytes >>= λ ws. Ok (word ∷ ws.0, ws.1)) (
    steady_then (words_at n (turned word + 1)) (λ ws bytes. Ok (word ∷ ws, bytes)) (steady_words n (turned word + 1)) (λ ws bytes more whole. refl)))
