-- The parts of a file, or of a text, one after another.
use Rattle.std.proofs.Common.{◌≡◌, ◌∙◌, ℕ, Bool, true, false, List, [], ◌∷◌, ◌++◌, None, Some, Result, Ok, Err, refl, ap, sym}
use Rattle.std.specs.List.{list_all}
use Rattle.zdebug.specs.declared.error.DebugError.{DebugError}
use Rattle.zdebug.specs.declared.error.DebugError.TheVariants as errors
use Rattle.zdebug.specs.Steps.{◌>>=◌, Refuses, need}
use Rattle.zdebug.specs.Cutting.{cut, parts, is_blank}
use Rattle.zdebug.specs.Words.{replaced, joined, joined_all, text_of}
use Rattle.zdebug.specs.Reading.{Kept, after, after_all, opening, whole, read_parts, reading}
use Rattle.zdebug.proofs.Cuts.{parts_cut, parts_uncut}
use Rattle.zdebug.proofs.Going.{refused_on, refused_same}

-- a step that nothing follows
alone : {A : Type 0} (due : Result A DebugError) → (due >>= (λ x. Ok x)) ≡ due
alone (Ok x) = refl
alone (Err e) = refl

-- ---- tags

pub after_more : (k next : Kept) (bytes part behind : List ℕ) → Some (part, behind) ≡ cut 60 bytes → after k part ≡ Ok next → after_all k (parts 60 bytes) ≡ after_all next (parts 60 behind)
after_more k next bytes part behind h e =
    ap (after_all k) (parts_cut 60 bytes part behind (sym h))
    ∙ ap (λ (r : Result Kept DebugError). r >>= (λ n. after_all n (parts 60 behind))) e

pub after_refused : (e : DebugError) (k : Kept) (bytes part behind : List ℕ) → Some (part, behind) ≡ cut 60 bytes → Refuses e (after k part) → Refuses e (after_all k (parts 60 bytes))
after_refused e k bytes part behind h r =
    refused_same e (after_all k (parts 60 bytes)) (after_all k (part ∷ parts 60 behind)) (ap (after_all k) (parts_cut 60 bytes part behind (sym h)))
    (refused_on e (after k part) (λ n. after_all n (parts 60 behind)) r)

pub after_last : (k : Kept) (bytes : List ℕ) → None ≡ cut 60 bytes → after_all k (parts 60 bytes) ≡ after k bytes
after_last k bytes h = ap (after_all k) (parts_uncut 60 bytes (sym h)) ∙ alone (after k bytes)

-- ---- texts

joined_on : (text next part : List ℕ) (others : List (List ℕ)) (r : Result (List ℕ) DebugError) → (r >>= (λ more. Ok (text ++ more))) ≡ Ok next → (r >>= (λ more. joined (text ++ more) others)) ≡ joined next others
joined_on text next part others (Ok more) e = ap (λ (t : Result (List ℕ) DebugError). t >>= (λ l. joined l others)) e
joined_on text next part others (Err x) e = ap (λ (t : Result (List ℕ) DebugError). t >>= (λ l. joined l others)) e

pub joined_more : (text next bytes part behind : List ℕ) → Some (part, behind) ≡ cut 38 bytes → joined text (part ∷ []) ≡ Ok next → joined text (parts 38 bytes) ≡ joined next (parts 38 behind)
joined_more text next bytes part behind h e =
    ap (joined text) (parts_cut 38 bytes part behind (sym h)) ∙ joined_on text next part (parts 38 behind) (replaced (cut 59 part)) e

joined_refused_on : (e : DebugError) (text : List ℕ) (others : List (List ℕ)) (r : Result (List ℕ) DebugError) → Refuses e (r >>= (λ more. Ok (text ++ more))) → Refuses e (r >>= (λ more. joined (text ++ more) others))
joined_refused_on e text others (Ok more) h = refused_on e (Ok (text ++ more)) (λ l. joined l others) h
joined_refused_on e text others (Err x) h = refused_on e (Err x) (λ l. joined l others) h

pub joined_refused : (e : DebugError) (text bytes part behind : List ℕ) → Some (part, behind) ≡ cut 38 bytes → Refuses e (joined text (part ∷ [])) → Refuses e (joined text (parts 38 bytes))
joined_refused e text bytes part behind h r =
    refused_same e (joined text (parts 38 bytes)) (joined text (part ∷ parts 38 behind)) (ap (joined text) (parts_cut 38 bytes part behind (sym h)))
    (joined_refused_on e text (parts 38 behind) (replaced (cut 59 part)) r)

pub joined_last : (text bytes : List ℕ) → None ≡ cut 38 bytes → joined text (parts 38 bytes) ≡ joined text (bytes ∷ [])
joined_last text bytes h = ap (joined text) (parts_uncut 38 bytes (sym h))

pub text_whole : (bytes : List ℕ) → None ≡ cut 38 bytes → text_of bytes ≡ Ok bytes
text_whole bytes h = ap joined_all (parts_uncut 38 bytes (sym h))

pub text_in_two : (bytes first others : List ℕ) → Some (first, others) ≡ cut 38 bytes → text_of bytes ≡ joined first (parts 38 others)
text_in_two bytes first others h = ap joined_all (parts_cut 38 bytes first others (sym h))

-- ---- files

lone_part : (blank : Bool) → (need blank errors.NotDebug >>= (λ _. after_all opening [] >>= whole)) ≡ Err errors.NotDebug
lone_part true = refl
lone_part false = refl

-- with no tag there is no outermost element
pub reading_uncut : (bytes : List ℕ) → None ≡ cut 60 bytes → reading bytes ≡ Err errors.NotDebug
reading_uncut bytes h = ap read_parts (parts_uncut 60 bytes (sym h)) ∙ lone_part (list_all is_blank bytes)

reading_in_two : (bytes lead others : List ℕ) (blank : Bool) → Some (lead, others) ≡ cut 60 bytes → list_all is_blank lead ≡ blank → reading bytes ≡ (need blank errors.NotDebug >>= (λ _. after_all opening (parts 60 others) >>= whole))
reading_in_two bytes lead others blank h e =
    ap read_parts (parts_cut 60 bytes lead others (sym h)) ∙ ap (λ (b : Bool). need b errors.NotDebug >>= (λ _. after_all opening (parts 60 others) >>= whole)) e

pub reading_refused : (bytes lead others : List ℕ) → Some (lead, others) ≡ cut 60 bytes → list_all is_blank lead ≡ false → reading bytes ≡ Err errors.NotDebug
reading_refused bytes lead others h e = reading_in_two bytes lead others false h e

pub reading_on : (k : Kept) (bytes lead others : List ℕ) → k ≡ opening → Some (lead, others) ≡ cut 60 bytes → list_all is_blank lead ≡ true → reading bytes ≡ (after_all k (parts 60 others) >>= whole)
reading_on k bytes lead others start h e =
    reading_in_two bytes lead others true h e ∙ ap (λ (o : Kept). after_all o (parts 60 others) >>= whole) (sym start)
