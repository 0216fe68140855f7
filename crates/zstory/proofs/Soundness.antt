-- Memory against which nothing speaks is sound.
use Rattle.std.proofs.Common.{◌≡◌, ℕ, ◌<◌, ◌≤◌, inl, inr, lit<, List, length}
use Rattle.std.proofs.lemmas.Bool.{cases_lt}
use Rattle.zstory.specs.declared.load_error.LoadError.TheVariants.{StaticBase, Globals, Objects, Dictionary, EntryLength, DictionaryOrder, FirstInstruction}
use Rattle.zstory.specs.Header as header
use Rattle.zstory.specs.Bytes.{AreBytes}
use Rattle.zstory.specs.LoadedStory.{IsSound}
use Rattle.zstory.specs.Refusal.{IsFlaw, HasNone}

at_least : {m n : ℕ} → ¬ (m < n) → n ≤ m
at_least {m} {n} not_below = elim (cases_lt m n) [ inl below ↦ absurd (not_below below) | inr above ↦ above ]

below : {m n : ℕ} → ¬ (n ≤ m) → m < n
below {m} {n} not_above = elim (cases_lt m n) [ inl is ↦ is | inr above ↦ absurd (not_above above) ]

-- memory of a story's length and version against which nothing speaks is sound
pub sound_from_none : (memory : List ℕ) → AreBytes memory → 64 ≤ length memory → length memory ≤ 131072 → header.version memory ≡ 3 → HasNone (IsFlaw memory) → IsSound memory
sound_from_none memory bytes least greatest version none =
    let base = none StaticBase (lit< tt) in
    let globals = none Globals (lit< tt) in
    let defaults = none Objects (lit< tt) in
    let dictionary = none Dictionary (lit< tt) in
    let order = none DictionaryOrder (lit< tt) in
    let start = none FirstInstruction (lit< tt) in
    record {
      bytes = bytes;
      least_length = least;
      greatest_length = greatest;
      version = version;
      static_base_above = at_least (λ h. base (inl h));
      static_base_within = at_least (λ h. base (inr h));
      globals_above = at_least (λ h. globals (inl h));
      globals_within = at_least (λ h. globals (inr h));
      defaults_above = at_least (λ h. defaults (inl h));
      defaults_within = at_least (λ h. defaults (inr h));
      dictionary_above = at_least (λ h. dictionary (inl h));
      dictionary_within = at_least (λ h. dictionary (inr h));
      entries_long = at_least (none EntryLength (lit< tt));
      entries_ordered = λ entry h. at_least (λ l. order (entry, h, l));
      first_instruction_above = at_least (λ h. start (inl h));
      first_instruction_within = below (λ h. start (inr h));
    }
