-- The tokens of a line are the separators and the longest runs.
use Rattle.std.proofs.Common.{◌≡◌, ◌∙◌, ◌⊎◌, ◌↔◌, ℕ, zero, suc, ◌+◌, ◌-◌, ◌<◌, ◌≤◌, Bool, true, false, not, cond, inl, inr, List, [], ◌∷◌, length, take, drop, get_or, refl, sym, ap, subst, arith}
use Rattle.std.proofs.lemmas.Bool.{cases_Bool, cases_lt, and_parts, false≢true}
use Rattle.std.proofs.lemmas.List.{length-drop, get_or-drop}
use Rattle.std.proofs.lemmas.List.Folds.{length-prefix_len}
use Rattle.std.proofs.lemmas.List.Sums.{prefix_len_passes, prefix_len_stops, prefix_len_is}
use Rattle.std.specs.List.{prefix_len}
use Rattle.zstory.specs.Bytes.{byte_at}
use Rattle.zdict.specs.Tokens.{Span, is_space, is_listed, is_letter, is_separator, begins, token_at, tokens, tokens_from}
use Rattle.zdict.specs.Parts.{IsPart, IsSeparator, IsRun, IsToken, IsIn}
use Rattle.zdict.proofs.Parts.{at_space, at_separator, at_letter, in_run, prefix_of_letter, part_of, rest_of}

-- whether a place stands behind a letter
record Follows (listed line : List ℕ) (place : ℕ) (behind : Bool) : Type 0 where
  first : place ≡ 0 → behind ≡ false
  later : (p : ℕ) → p + 1 ≡ place → is_letter listed (byte_at line p) ≡ behind

-- the byte at a place, where a line goes on there
byte_of : (line rest : List ℕ) (byte place : ℕ) → byte ∷ rest ≡ drop place line → byte_at line place ≡ byte
byte_of line rest byte place here =
    let same : place + 0 ≡ place = omega arith in
    ap (byte_at line) (sym same) ∙ sym (get_or-drop place line 0 0) ∙ ap (λ (xs : List ℕ). get_or xs 0 0) (sym here)

inside_of : (line rest : List ℕ) (byte place : ℕ) → byte ∷ rest ≡ drop place line → place < length line
inside_of line rest byte place here = omega (arith, ap length here, length-drop place line)

follows_on : (listed line : List ℕ) (byte place : ℕ) (behind : Bool) → byte_at line place ≡ byte → is_letter listed byte ≡ behind → Follows listed line (place + 1) behind
follows_on listed line byte place behind same is =
    record {
      first = λ e. absurd (omega (arith, e));
      later = λ p e. let at : p ≡ place = omega (arith, e) in ap (λ (k : ℕ). is_letter listed (byte_at line k)) at ∙ ap (is_letter listed) same ∙ is;
    }

letter_of : (listed : List ℕ) (byte : ℕ) → is_space byte ≡ false → is_listed listed byte ≡ false → is_letter listed byte ≡ true
letter_of listed byte is_none lies = rw (is_none, lies) refl

no_letter_of_space : (listed : List ℕ) (byte : ℕ) → is_space byte ≡ true → is_letter listed byte ≡ false
no_letter_of_space listed byte is = rw is refl

no_letter_of_separator : (listed : List ℕ) (byte : ℕ) → is_space byte ≡ false → is_listed listed byte ≡ true → is_letter listed byte ≡ false
no_letter_of_separator listed byte is_none divides = rw (is_none, divides) refl

separator_of : (listed : List ℕ) (byte : ℕ) → is_space byte ≡ false → is_listed listed byte ≡ true → is_separator listed byte ≡ true
separator_of listed byte is_none divides = rw (is_none, divides) refl

separator_there : (listed line rest : List ℕ) (byte place : ℕ) → byte ∷ rest ≡ drop place line → is_space byte ≡ false → is_listed listed byte ≡ true → IsToken listed line (record { place = place; bytes = byte ∷ [] })
separator_there listed line rest byte place here is_none divides =
    (part_of line place 1 (byte ∷ []) (omega arith) refl (ap (take 1) here), inl (record { one = refl; separates = ap (is_separator listed) (byte_of line rest byte place here) ∙ separator_of listed byte is_none divides }))

-- what is said of the rest of a line by an index is said of the line by a place
in_rest : (line : List ℕ) (place k : ℕ) → get_or (drop place line) k 0 ≡ byte_at line (place + k)
in_rest line place k = get_or-drop place line k 0

run_there : (listed line rest : List ℕ) (byte place : ℕ) → byte ∷ rest ≡ drop place line → is_space byte ≡ false → is_listed listed byte ≡ false → Follows listed line place false → IsToken listed line (record { place = place; bytes = take (1 + prefix_len (is_letter listed) rest) (byte ∷ rest) })
run_there listed line rest byte place here is_none lies follows =
    let test : ℕ → Bool = is_letter listed in
    let size : ℕ = 1 + prefix_len test rest in
    let whole : prefix_len test (byte ∷ rest) ≡ size = prefix_of_letter listed byte rest place is_none lies in
    let long : length (take size (byte ∷ rest)) ≡ size = rw whole at (length-prefix_len test (byte ∷ rest)) in
    let counted : prefix_len test (drop place line) ≡ size = ap (prefix_len test) (sym here) ∙ whole in (
      part_of line place size (take size (byte ∷ rest)) (omega arith) long (ap (take size) here),
      inr (record {
        letters = λ p h l. let at : place + (p - place) ≡ p = omega arith in ap (λ (k : ℕ). test (byte_at line k)) (sym at) ∙ ap test (sym (in_rest line place (p - place))) ∙ prefix_len_passes test (drop place line) (p - place) 0 (omega (arith, counted, long));
        before = follows.later;
        behind = λ l. let at : place + length (take size (byte ∷ rest)) ≡ place + prefix_len test (drop place line) = omega (arith, long, counted) in ap (λ (k : ℕ). test (byte_at line k)) at ∙ ap test (sym (in_rest line place (prefix_len test (drop place line)))) ∙ prefix_len_stops test (drop place line) 0 (omega (arith, long, counted, length-drop place line));
      }),
    )

letter_is : (listed line rest : List ℕ) (byte : ℕ) (behind : Bool) (place : ℕ) (span : Span) → byte ∷ rest ≡ drop place line → Follows listed line place behind → is_space byte ≡ false → is_listed listed byte ≡ false → (IsIn span (tokens_from listed true (place + 1) rest) → IsToken listed line span) → IsIn span (tokens_from listed behind place (byte ∷ rest)) → IsToken listed line span
letter_is listed line rest byte true place span here follows is_none lies later is_in = later (subst (IsIn span) (in_run listed byte rest place is_none lies) is_in)
letter_is listed line rest byte false place span here follows is_none lies later is_in =
    elim (subst (IsIn span) (at_letter listed byte rest place is_none lies) is_in) [
      | inl head ↦ subst (IsToken listed line) (sym head) (run_there listed line rest byte place here is_none lies follows)
      | inr more ↦ later more
    ]

tokens_are : (listed line rest : List ℕ) (behind : Bool) (place : ℕ) (span : Span) → rest ≡ drop place line → Follows listed line place behind → IsIn span (tokens_from listed behind place rest) → IsToken listed line span
tokens_are listed line [] behind place span here follows is_in = absurd is_in
tokens_are listed line (byte ∷ rest) behind place span here follows is_in =
    let next = rest_of line rest byte place here in
    let same = byte_of line rest byte place here in
    elim (cases_Bool (is_space byte)) [
      | inl is ↦ tokens_are listed line rest false (place + 1) span next (follows_on listed line byte place false same (no_letter_of_space listed byte is)) (subst (IsIn span) (at_space listed byte rest place behind is) is_in)
      | inr is_none ↦ elim (cases_Bool (is_listed listed byte)) [
        | inl divides ↦ elim (subst (IsIn span) (at_separator listed byte rest place behind is_none divides) is_in) [
          | inl head ↦ subst (IsToken listed line) (sym head) (separator_there listed line rest byte place here is_none divides)
          | inr more ↦ tokens_are listed line rest false (place + 1) span next (follows_on listed line byte place false same (no_letter_of_separator listed byte is_none divides)) more
        ]
        | inr lies ↦ letter_is listed line rest byte behind place span here follows is_none lies (tokens_are listed line rest true (place + 1) span next (follows_on listed line byte place true same (letter_of listed byte is_none lies))) is_in
      ]
    ]

-- what is among the tokens behind a byte is among those from it on
in_more : (listed rest : List ℕ) (byte place : ℕ) (behind : Bool) (span : Span) → IsIn span (tokens_from listed (is_letter listed byte) (place + 1) rest) → IsIn span (tokens_from listed behind place (byte ∷ rest))
in_more listed rest byte place behind span more = in_either (begins listed behind byte) (token_at listed place (byte ∷ rest)) (tokens_from listed (is_letter listed byte) (place + 1) rest) more
  where
    in_either : (b : Bool) (head : Span) (spans : List Span) → IsIn span spans → IsIn span (cond b (head ∷ spans) spans)
    in_either true head spans is_in = inr is_in
    in_either false head spans is_in = is_in

same_span : (span : Span) (place : ℕ) (bytes : List ℕ) → span.place ≡ place → span.bytes ≡ bytes → span ≡ record { place = place; bytes = bytes }
same_span span place bytes at same =
    let made : ℕ → List ℕ → Span = λ place bytes. record { place = place; bytes = bytes } in
    ap (λ (k : ℕ). made k span.bytes) at ∙ ap (made place) same

-- the bytes of a part of a line, by its place and its length
bytes_of : (line : List ℕ) (span : Span) (place size : ℕ) → IsPart line span → span.place ≡ place → length span.bytes ≡ size → span.bytes ≡ take size (drop place line)
bytes_of line span place size part at long =
    let width : span.place + length span.bytes - span.place ≡ size = omega (arith, long) in
    part.same ∙ ap (λ (n : ℕ). take n (drop span.place line)) width ∙ ap (λ (k : ℕ). take size (drop k line)) at

-- a run begins behind no letter
begins_run : (listed line : List ℕ) (place : ℕ) (behind : Bool) → Follows listed line place behind → ((p : ℕ) → p + 1 ≡ place → is_letter listed (byte_at line p) ≡ false) → behind ≡ false
begins_run listed line zero behind follows before = follows.first refl
begins_run listed line (suc p) behind follows before =
    let next : p + 1 ≡ suc p = omega arith in
    sym (follows.later p next) ∙ before p next

not_true : (b : Bool) → not b ≡ true → b ≡ false
not_true true e = absurd (false≢true e)
not_true false e = refl

parts_of_letter : (listed : List ℕ) (byte : ℕ) → is_letter listed byte ≡ true → (is_space byte ≡ false) × (is_listed listed byte ≡ false)
parts_of_letter listed byte e =
    let both = and_parts (not (is_space byte)) (not (is_listed listed byte)) e in
    (not_true (is_space byte) both.0, not_true (is_listed listed byte) both.1)

parts_of_separator : (listed : List ℕ) (byte : ℕ) → is_separator listed byte ≡ true → (is_space byte ≡ false) × (is_listed listed byte ≡ true)
parts_of_separator listed byte e =
    let both = and_parts (not (is_space byte)) (is_listed listed byte) e in
    (not_true (is_space byte) both.0, both.1)

separator_in : (listed line rest : List ℕ) (byte place : ℕ) (behind : Bool) (span : Span) → byte ∷ rest ≡ drop place line → span.place ≡ place → IsPart line span → IsSeparator listed line span → IsIn span (tokens_from listed behind place (byte ∷ rest))
separator_in listed line rest byte place behind span here at part is =
    let there : is_separator listed byte ≡ true = ap (is_separator listed) (sym (byte_of line rest byte place here)) ∙ ap (λ (k : ℕ). is_separator listed (byte_at line k)) (sym at) ∙ is.separates in
    let known = parts_of_separator listed byte there in
    let bytes : span.bytes ≡ byte ∷ [] = bytes_of line span place 1 part at is.one ∙ ap (take 1) (sym here) in
    subst (IsIn span) (sym (at_separator listed byte rest place behind known.0 known.1)) (inl (same_span span place (byte ∷ []) at bytes))

run_in : (listed line rest : List ℕ) (byte place : ℕ) (span : Span) → byte ∷ rest ≡ drop place line → span.place ≡ place → IsPart line span → IsRun listed line span → IsIn span (tokens_from listed false place (byte ∷ rest))
run_in listed line rest byte place span here at part is =
    let test : ℕ → Bool = is_letter listed in
    let size : ℕ = 1 + prefix_len test rest in
    let there : test byte ≡ true = ap test (sym (byte_of line rest byte place here)) ∙ ap (λ (k : ℕ). test (byte_at line k)) (sym at) ∙ is.letters span.place (omega arith) (omega (arith, part.some)) in
    let known = parts_of_letter listed byte there in
    let counted : prefix_len test (drop place line) ≡ length span.bytes =
    prefix_len_is test (drop place line) (length span.bytes) 0 (omega (arith, at, part.within, length-drop place line))
    (λ k l. ap test (in_rest line place k) ∙ is.letters (place + k) (omega (arith, at)) (omega (arith, at, l)))
    (λ l. let end : place + length span.bytes ≡ span.place + length span.bytes = omega (arith, at) in ap test (in_rest line place (length span.bytes)) ∙ ap (λ (k : ℕ). test (byte_at line k)) end ∙ is.behind (omega (arith, at, l, length-drop place line)))
    in
    let long : length span.bytes ≡ size = sym counted ∙ ap (prefix_len test) (sym here) ∙ prefix_of_letter listed byte rest place known.0 known.1 in
    let bytes : span.bytes ≡ take size (byte ∷ rest) = bytes_of line span place size part at long ∙ ap (take size) (sym here) in
    subst (IsIn span) (sym (at_letter listed byte rest place known.0 known.1)) (inl (same_span span place (take size (byte ∷ rest)) at bytes))

are_tokens : (listed line rest : List ℕ) (behind : Bool) (place : ℕ) (span : Span) → rest ≡ drop place line → Follows listed line place behind → place ≤ span.place → IsToken listed line span → IsIn span (tokens_from listed behind place rest)
are_tokens listed line [] behind place span here follows above token =
    absurd (omega (arith, ap length here, length-drop place line, token.0.some, token.0.within))
are_tokens listed line (byte ∷ rest) behind place span here follows above token =
    elim (cases_lt place span.place) [
      | inl later ↦ in_more listed rest byte place behind span (are_tokens listed line rest (is_letter listed byte) (place + 1) span (rest_of line rest byte place here) (follows_on listed line byte place (is_letter listed byte) (byte_of line rest byte place here) refl) (omega arith) token)
      | inr no_later ↦ by_kind (omega arith) token.1
    ]
  where
    by_kind : span.place ≡ place → IsSeparator listed line span ⊎ IsRun listed line span → IsIn span (tokens_from listed behind place (byte ∷ rest))
    by_kind at (inl separator) = separator_in listed line rest byte place behind span here at token.0 separator
    by_kind at (inr run) =
        let fresh : behind ≡ false = begins_run listed line place behind follows (λ p e. run.before p (e ∙ sym at)) in
        subst (λ (b : Bool). IsIn span (tokens_from listed b place (byte ∷ rest))) (sym fresh) (run_in listed line rest byte place span here at token.0 run)

pub tokens_exact : (listed line : List ℕ) (span : Span) → IsIn span (tokens listed line) ↔ IsToken listed line span
tokens_exact listed line span =
    let start : Follows listed line 0 false = record { first = λ e. refl; later = λ p e. absurd (omega (arith, e)) } in
    (tokens_are listed line line false 0 span refl start, are_tokens listed line line false 0 span refl start (omega arith))
