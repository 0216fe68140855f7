-- What stays as it was loaded, in a state that claims describe.
use Rattle.std.proofs.Common.{◌↔◌, ◌≡◌, ℕ, ◌+◌, ◌*◌, ◌-◌, ◌<◌, ◌≤◌, inl, inr, Bool, true, false, List, length, drop, Option, Some, None, Ok, refl, sym, ap, subst, ◌∙◌, arith, nat_lt, min, [], if◌then◌else◌}
use Rattle.std.specs.Prelude.{IsTrue, is_some, option_map, unwrap_or}
use Rattle.std.specs.Bool.{OnTrue}
use Rattle.std.specs.Option.{option_and_then, IsSomeAnd}
use Rattle.std.proofs.lemmas.List.{get_or-drop, length-drop}
use Rattle.std.proofs.lemmas.Grind.{same_number_lists}
use Rattle.zstory.specs.Bytes.{byte_at, word_at}
use Rattle.zstory.specs.LoadedStory.{LoadedStory, IsSound, globals, static_base, abbreviations}
use Rattle.zstory.specs.Objects.{IsObjectCount}
use Rattle.ztext.specs.Words.{text_at, length_at, characters_in}
use Rattle.ztext.specs.Codes.{abbreviations_used}
use Rattle.ztext.specs.Abbreviations.{readable_word, abbreviation_at, IsPlainAbbreviation}
use Rattle.ztext.proofs.Sameness.{text_at-same, abbreviation_at-same}
use Rattle.ztext.specs.Local.{read_length}
use Rattle.zplace.specs.Bytes.{IsFlags, IsChanging, IsAbbreviation, header, an_abbreviation, static, IsFixed}
use Rattle.zcode.specs.Instruction.{Instruction}
use Rattle.zcode.specs.Opcodes.{prints_text}
use Rattle.zcode.specs.Reading.{instruction_at}
use Rattle.zruns.specs.Texts.{HasFixedText}
use Rattle.zrule.specs.Rules.{HasAbbreviations, IsThere}

on_true : (b : Bool) (P : Type 0) → (b ≡ true → P) → OnTrue b P
on_true true P gives = gives refl
on_true false P gives = tt

-- what is there
some_of : {A : Type 0} (found : Option A) (P : A → Type 0) → IsSomeAnd found P → (x : A) × (found ≡ Some x) × P x
some_of None P h = absurd h
some_of (Some x) P h = (x, refl, h)

and_then_some : {A B : Type 0} (found : Option A) (f : A → Option B) (y : B) → option_and_then f found ≡ Some y → (x : A) × (found ≡ Some x) × (f x ≡ Some y)
and_then_some None f y e = absurd cc
and_then_some (Some x) f y e = (x, refl, e)

readable_is : (memory : List ℕ) (at word : ℕ) → readable_word memory at ≡ Some word → word ≡ word_at memory at
readable_is memory at word e = by_test (nat_lt (at + 1) (min (length memory) 65536)) e
  where
    by_test : (b : Bool) → (if b then Some (word_at memory at) else None) ≡ Some word → word ≡ word_at memory at
    by_test true e = cc
    by_test false e = absurd cc

-- how the text of an abbreviation is read: by a word of the table
pub record IsRead (memory : List ℕ) (n : ℕ) (text : List ℕ) (table : ℕ) : Type 0 where
  pub word : readable_word memory (table + 2 * n) ≡ Some (word_at memory (table + 2 * n))
  pub text_is : text_at memory (2 * word_at memory (table + 2 * n)) ≡ Some text
  pub length_is : read_length memory (2 * word_at memory (table + 2 * n)) ≡ length text

-- an abbreviation that is found is read so
pub read_where : (memory : List ℕ) (n : ℕ) (text : List ℕ) → abbreviation_at memory n ≡ Some text → IsRead memory n text (word_at memory 0x18)
read_where memory n text e =
    let table = and_then_some (readable_word memory 0x18) _ text e in
    let word = and_then_some (readable_word memory (table.0 + 2 * n)) _ text table.2 in
    let table_is = readable_is memory 0x18 table.0 table.1 in
    let word_is = readable_is memory (table.0 + 2 * n) word.0 word.1 in
    let found : text_at memory (2 * word_at memory (table.0 + 2 * n)) ≡ Some text = subst (λ (w : ℕ). text_at memory (2 * w) ≡ Some text) word_is word.2 in
    subst (IsRead memory n text) table_is (record {
      word = word.1 ∙ ap (λ (w : ℕ). Some w) word_is;
      text_is = found;
      length_is = ap (λ (t : Option (List ℕ)). unwrap_or (option_map length t) (length memory - 2 * word_at memory (table.0 + 2 * n))) found;
    })

module _ (story : LoadedStory) (sound : IsSound story.memory) (counted : IsObjectCount story.memory story.objects) where
  -- no instruction changes static memory
  pub static_unchanging : (p : ℕ) → static_base story ≤ p → IsChanging story p → ⊥
  static_unchanging p above (inl flags) = absurd (let base : 64 ≤ static_base story = sound.static_base_above in omega (arith, flags.1))
  static_unchanging p above (inr (inl a_global)) = absurd (let base : globals story + 480 ≤ static_base story = sound.globals_within in omega (arith, a_global.1))
  static_unchanging p above (inr (inr state)) =
      let dynamic = (counted.entries state.object state.first state.last).dynamic in
      absurd (omega (arith, dynamic, state.inside.1))

  module _ (is_frozen : ℕ → Bool) where
    pub static_fixed : (p : ℕ) → static_base story ≤ p → IsFixed story is_frozen p
    static_fixed p above = record { closed = static above; unchanging = static_unchanging p above }

    -- so each text there that ends stays as it is
    pub text_fixed : (at : ℕ) → static_base story ≤ at → (size : Option ℕ) → size ≡ length_at story.memory at → IsTrue (is_some size) ↔ HasFixedText story is_frozen at
    text_fixed at above size is = by_text (text_at story.memory at) refl
      where
        by_text : (found : Option (List ℕ)) → text_at story.memory at ≡ found → IsTrue (is_some size) ↔ HasFixedText story is_frozen at
        by_text None e =
            let none : size ≡ None = is ∙ ap (option_map length) e in
            (λ t. absurd (let false_is = subst (λ (s : Option ℕ). IsTrue (is_some s)) none t in cc), λ fixed. absurd (let found = sym e ∙ fixed.found in cc))
        by_text (Some text) e =
            let some : size ≡ Some (length text) = is ∙ ap (option_map length) e in
            (λ t. record { text = text; found = e; fixed = λ p within. static_fixed p (omega (arith, above, within.0)) }, λ fixed. ap is_some some)

    -- and so does that of an instruction that is there, whose text ends with it
    pub text_kept : ((memory : List ℕ) (at : ℕ) (i : Instruction) → instruction_at (drop at memory) ≡ Ok i → IsTrue (prints_text i.opcode) → length_at memory (at + 1) ≡ Some (i.size - 1)) → (p : ℕ) (i : Instruction) → IsThere story p i → OnTrue (prints_text i.opcode) (HasFixedText story is_frozen (p + 1))
    text_kept ends p i there =
        on_true (prints_text i.opcode) (HasFixedText story is_frozen (p + 1)) (λ prints. (text_fixed (p + 1) (omega (arith, there.static)) (Some (i.size - 1)) (sym (ends story.memory p i there.decodes prints))).0 refl)

    -- nor the header, but for Flags 2
    header_unchanging : (p : ℕ) → p < 64 → (IsFlags p → ⊥) → IsChanging story p → ⊥
    header_unchanging p low other (inl flags) = other flags
    header_unchanging p low other (inr (inl a_global)) = absurd (let base : 64 ≤ globals story = sound.globals_above in omega (arith, a_global.0))
    header_unchanging p low other (inr (inr state)) =
        absurd (let base = sound.defaults_above in omega (arith, base, state.inside.0))

    pub header_fixed : (p : ℕ) → p < 64 → (IsFlags p → ⊥) → IsFixed story is_frozen p
    header_fixed p low other = record { closed = header (low, other); unchanging = header_unchanging p low other }

    -- nor an abbreviation, by the rule
    pub abbreviation_fixed : HasAbbreviations story → (p : ℕ) → IsAbbreviation story p → IsFixed story is_frozen p
    abbreviation_fixed rule p inside = record { closed = an_abbreviation inside; unchanging = rule.unchanging p inside }

    -- so a memory whose fixed bytes are as loaded has them too
    module _ (memory : List ℕ) (long : length memory ≡ length story.memory) (same : (p : ℕ) → IsFixed story is_frozen p → byte_at memory p ≡ byte_at story.memory p) where
      pub drop_same : (p : ℕ) → static_base story ≤ p → drop p memory ≡ drop p story.memory
      drop_same p above = same_number_lists _ _ (length-drop p memory ∙ ap (λ n. n - p) long ∙ sym (length-drop p story.memory)) (λ k below.
          get_or-drop p memory k 0 ∙ same (p + k) (static_fixed (p + k) (omega (arith, above))) ∙ sym (get_or-drop p story.memory k 0))

      word_same : (p : ℕ) → IsFixed story is_frozen p → IsFixed story is_frozen (p + 1) → word_at memory p ≡ word_at story.memory p
      word_same p high low = let a = same p high in let b = same (p + 1) low in rw (a, b) refl

      -- an abbreviation is what it was
      pub abbreviation_same : HasAbbreviations story → (n : ℕ) → n < 96 → IsPlainAbbreviation memory n
      abbreviation_same rule n few =
          let was = some_of (abbreviation_at story.memory n) (λ text. abbreviations_used (characters_in text) ≡ []) (rule.plain n few) in
          let read = read_where story.memory n was.0 was.1 in
          let table = abbreviations story in
          let word = word_at story.memory (table + 2 * n) in
          let table_same : word_at memory 0x18 ≡ word_at story.memory 0x18 = word_same 0x18 (header_fixed 0x18 (omega arith) (λ f. omega (arith, f.1))) (header_fixed (0x18 + 1) (omega arith) (λ f. omega (arith, f.1))) in
          let at_word : (k : ℕ) → k < 2 → IsAbbreviation story (table + 2 * n + k) = λ k small. record { number = n; last = few; inside = inl (omega arith, omega (arith, small)) } in
          let high : IsFixed story is_frozen (table + 2 * n) = abbreviation_fixed rule (table + 2 * n) (record { number = n; last = few; inside = inl (omega arith, omega arith) }) in
          let low : IsFixed story is_frozen (table + 2 * n + 1) = abbreviation_fixed rule (table + 2 * n + 1) (at_word 1 (omega arith)) in
          let word_is : word_at memory (table + 2 * n) ≡ word = word_same (table + 2 * n) high low in
          let text_is : text_at memory (2 * word) ≡ Some was.0 = text_at-same story.memory memory (2 * word) was.0 long read.text_is (λ place from to.
          same place (abbreviation_fixed rule place (record { number = n; last = few; inside = inr (word, read.word, (from, omega (arith, to, read.length_is))) }))) in
          let all : abbreviation_at memory n ≡ abbreviation_at story.memory n = abbreviation_at-same story.memory memory n long table_same word_is (text_is ∙ sym read.text_is) in
          subst (λ (text : Option (List ℕ)). IsSomeAnd text (λ text. abbreviations_used (characters_in text) ≡ [])) (sym all) (rule.plain n few)
