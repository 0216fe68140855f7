-- A text with its stops is its parts, and pieces of it join.
use Rattle.std.proofs.Common.{◌≡◌, ℕ, ◌+◌, ◌<◌, ◌≤◌, Bool, true, false, inl, List, [], ◌∷◌, ◌++◌, refl, sym, ap, ◌∙◌, subst, append_assoc, arith}
use Rattle.std.specs.Prelude.{◌==◌, All, cond, if◌then◌else◌, nat_lt, Option}
use Rattle.std.specs.List.{concat}
use Rattle.std.specs.Io.KnownBytes.{Appends}
use Rattle.std.proofs.KnownBytes.{Appends-trans}
use Rattle.std.proofs.lemmas.Bool.{ltb-true}
use Rattle.std.proofs.lemmas.List.Elements.{All-cons, All-nil}
use Rattle.zfront.specs.Pages.{Paging, IsPaged, ShowsPiece, behind_stops, ends_in, erased, more, paged, paged_here, shown_behind, shown_with, stop_at}
use Rattle.zfront.proofs.Paging.{ends, ends_are}

-- the parts, of which the first has room only for the lines that are left of a page
record Parts (lines before : ℕ) (text result : List ℕ) : Type 0 where
  first : List ℕ
  others : List (List ℕ)
  whole : text ≡ first ++ concat others
  stopped : result ≡ first ++ behind_stops others
  short : before + ends first ≤ lines
  others_short : All (λ part. ends_in part ≤ lines) others

-- how many lines a byte ends
abbrev line_of : ℕ → ℕ
line_of byte = if byte == 10 then 1 else 0

one_more : (byte : ℕ) (first : List ℕ) → (line_of byte ≤ 1) × (ends (byte ∷ first) ≡ line_of byte + ends first)
one_more byte first = cases (byte == 10)
  where
    cases : (t : Bool) → ((if t then 1 else 0) ≤ 1) × (cond t (1 + ends first) (ends first) ≡ (if t then 1 else 0) + ends first)
    cases true = (omega arith, refl)
    cases false = (omega arith, omega arith)

parts_of : (lines before : ℕ) (text : List ℕ) → 0 < lines → before ≤ lines → Parts lines before text (paged lines before text)
parts_of lines before [] some within = record { first = []; others = []; whole = refl; stopped = refl; short = omega arith; others_short = All-nil (λ part. ends_in part ≤ lines) }
parts_of lines before (byte ∷ rest) some within = cases (nat_lt before lines) (ltb-true before lines) (λ n. parts_of lines n rest some)
  where
    cases : (t : Bool) → (t ≡ true → before < lines) → ((n : ℕ) → n ≤ lines → Parts lines n rest (paged lines n rest))
        → Parts lines before (byte ∷ rest) ((if t then [] else more ++ erased) ++ byte ∷ paged lines ((if t then before else 0) + line_of byte) rest)
    cases true lt parts =
        let room : before < lines = lt refl in
        let small : line_of byte ≤ 1 = (one_more byte []).0 in
        let next : Parts lines (before + line_of byte) rest (paged lines (before + line_of byte) rest) = parts (before + line_of byte) (omega (arith, small, room)) in
        record {
          first = byte ∷ next.first;
          others = next.others;
          whole = ap (λ (b : List ℕ). byte ∷ b) next.whole;
          stopped = ap (λ (b : List ℕ). byte ∷ b) next.stopped;
          short = omega (arith, next.short, (one_more byte next.first).1);
          others_short = next.others_short;
        }
    cases false lt parts =
        let small : line_of byte ≤ 1 = (one_more byte []).0 in
        let next : Parts lines (0 + line_of byte) rest (paged lines (0 + line_of byte) rest) = parts (0 + line_of byte) (omega (arith, small, some)) in
        record {
          first = [];
          others = (byte ∷ next.first) ∷ next.others;
          whole = ap (λ (b : List ℕ). byte ∷ b) next.whole;
          stopped = ap (λ (b : List ℕ). (more ++ erased) ++ byte ∷ b) next.stopped;
          short = omega (arith, within);
          others_short = All-cons (λ part. ends_in part ≤ lines) (byte ∷ next.first) next.others (subst (λ (n : ℕ). n ≤ lines) (ends_are (byte ∷ next.first)) (omega (arith, next.short, (one_more byte next.first).1))) next.others_short;
        }

pub is_paged : (lines shown : ℕ) (text : List ℕ) → 0 < lines → shown ≤ lines → IsPaged lines text (paged lines shown text)
is_paged lines shown text some within =
    let parts = parts_of lines shown text some within in
    record { first = parts.first; others = parts.others; whole = parts.whole; stopped = parts.stopped; short = omega (arith, parts.short, ends_are parts.first); others_short = parts.others_short }

-- ---- pieces

paged-append : (lines before : ℕ) (piece text : List ℕ) → paged lines before (piece ++ text) ≡ paged lines before piece ++ paged lines (shown_behind lines before piece) text
paged-append lines before [] text = refl
paged-append lines before (byte ∷ rest) text =
    ap (λ (b : List ℕ). stop_at lines before ++ byte ∷ b) (paged-append lines (shown_with lines before byte) rest text)
    ∙ sym (append_assoc (stop_at lines before) (byte ∷ paged lines (shown_with lines before byte) rest) (paged lines (shown_behind lines (shown_with lines before byte) rest) text))

shown-append : (lines before : ℕ) (piece text : List ℕ) → shown_behind lines before (piece ++ text) ≡ shown_behind lines (shown_behind lines before piece) text
shown-append lines before [] text = refl
shown-append lines before (byte ∷ rest) text = shown-append lines (shown_with lines before byte) rest text

here-append : (t : Bool) (lines before : ℕ) (piece text : List ℕ)
    → (if t then paged lines before (piece ++ text) else piece ++ text) ≡ (if t then paged lines before piece else piece) ++ (if t then paged lines (shown_behind lines before piece) text else text)
here-append true lines before piece text = paged-append lines before piece text
here-append false lines before piece text = refl

pub shown_join : (a b c : Option (List ℕ)) (x y z : Paging) (piece text : List ℕ) → ShowsPiece a b x y piece → ShowsPiece b c y z text → y.stops ≡ x.stops → z.stops ≡ y.stops → ShowsPiece a c x z (piece ++ text)
shown_join a b c x y z piece text one two still again =
    let next : paged_here y text ≡ (if x.stops then paged x.lines (shown_behind x.lines x.shown piece) text else text) =
    ap (λ (t : Bool). if t then paged y.lines y.shown text else text) still ∙ ap (λ (n : ℕ). if x.stops then paged n y.shown text else text) one.lines ∙ ap (λ (n : ℕ). if x.stops then paged x.lines n text else text) one.shown in
    record {
      grown = subst (λ (given : List ℕ). Appends a c given) (ap (λ (b : List ℕ). paged_here x piece ++ b) next ∙ sym (here-append x.stops x.lines x.shown piece text)) (Appends-trans a b c (paged_here x piece) (paged_here y text) one.grown two.grown);
      lines = two.lines ∙ one.lines;
      shown = two.shown ∙ ap (λ (n : ℕ). shown_behind n y.shown text) one.lines ∙ ap (λ (n : ℕ). shown_behind x.lines n text) one.shown ∙ sym (shown-append x.lines x.shown piece text);
      stops = inl (again ∙ still);
    }
