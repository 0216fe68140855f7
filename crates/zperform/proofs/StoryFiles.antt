-- What holds of the part of a file that is read holds of the file: what is left out is only what is too long.
use Rattle.std.proofs.Common.{◌≡◌, ℕ, ◌<◌, ◌≤◌, Bool, true, false, nat_lt, List, length, take, refl, subst, ◌∙◌, ap, ltb-true, ltb-false, arith, Option, Some, None, ◌⊎◌, inl, inr}
use Rattle.std.proofs.lemmas.List.{take_all, length-take-le}
use Rattle.zstory.specs.LoadedStory.{LoadedStory}
use Rattle.zstory.specs.Refusal.{IsCause, IsLowest, NoneBelow}
use Rattle.zstory.specs.declared.load_error.LoadError.{LoadError}
use Rattle.zstory.specs.declared.load_error.LoadError.TheVariants.{TooShort, TooLong, NotVersion3, LengthWord, StaticBase, Globals, Objects, Dictionary, EntryLength, DictionaryOrder, FirstInstruction, OutOfMemory}
use Rattle.zjson.specs.Digest.{digest_text}
use Rattle.zperform.specs.Playing.{Holds, IsRefused, Reads}

-- the part is the whole file, or is too long as the file is
whole_or_long : (most : ℕ) (taken file : List ℕ) → 131072 < most → taken ≡ take most file
    → (taken ≡ file) ⊎ ((131072 < length taken) × (131072 < length file))
whole_or_long most taken file wide part = go (nat_lt most (length file)) refl
  where
    go : (b : Bool) → nat_lt most (length file) ≡ b → (taken ≡ file) ⊎ ((131072 < length taken) × (131072 < length file))
    go false t =
        let few : length file ≤ most = ltb-false most (length file) t in
        inl (part ∙ take_all most file few)
    go true t =
        let many : most < length file = ltb-true most (length file) t in
        let whole : length taken ≡ most = ap length part ∙ length-take-le most file (omega arith) in
        inr (omega arith, omega arith)

module _ (most : ℕ) (taken file : List ℕ) (wide : 131072 < most) (part : taken ≡ take most file) where
  pub holds_whole : (story : LoadedStory) → Holds taken story → Holds file story
  holds_whole story holds = go (whole_or_long most taken file wide part)
    where
      go : (taken ≡ file) ⊎ ((131072 < length taken) × (131072 < length file)) → Holds file story
      go (inl same) = subst (λ (bytes : List ℕ). Holds bytes story) same holds
      go (inr (long, all)) = absurd (holds.no_cause TooLong (omega arith) long)

  -- of a file that is too long nothing else is the lowest cause
  long_file : (error : LoadError) → 131072 < length taken → 131072 < length file → IsLowest (IsCause taken) error → IsLowest (IsCause file) error
  long_file TooShort long all (cause, none) = absurd (omega arith)
  long_file TooLong long all (cause, none) = (all, below)
    where
      below : NoneBelow (IsCause file) TooLong
      below TooShort few = λ short. omega arith
      below TooLong few = absurd (omega arith)
      below NotVersion3 few = absurd (omega arith)
      below LengthWord few = absurd (omega arith)
      below StaticBase few = absurd (omega arith)
      below Globals few = absurd (omega arith)
      below Objects few = absurd (omega arith)
      below Dictionary few = absurd (omega arith)
      below EntryLength few = absurd (omega arith)
      below DictionaryOrder few = absurd (omega arith)
      below FirstInstruction few = absurd (omega arith)
      below OutOfMemory few = absurd (omega arith)
  long_file NotVersion3 long all (cause, none) = absurd (none TooLong (omega arith) long)
  long_file LengthWord long all (cause, none) = absurd (none TooLong (omega arith) long)
  long_file StaticBase long all (cause, none) = absurd (none TooLong (omega arith) long)
  long_file Globals long all (cause, none) = absurd (none TooLong (omega arith) long)
  long_file Objects long all (cause, none) = absurd (none TooLong (omega arith) long)
  long_file Dictionary long all (cause, none) = absurd (none TooLong (omega arith) long)
  long_file EntryLength long all (cause, none) = absurd (none TooLong (omega arith) long)
  long_file DictionaryOrder long all (cause, none) = absurd (none TooLong (omega arith) long)
  long_file FirstInstruction long all (cause, none) = absurd (none TooLong (omega arith) long)
  long_file OutOfMemory long all (cause, none) = absurd (none TooLong (omega arith) long)

  -- and has the digest of that
  pub digested_whole : (story : LoadedStory) (digest : List ℕ) → Holds taken story × (digest ≡ digest_text taken) → Holds file story × (digest ≡ digest_text file)
  digested_whole story digest (holds, is) = go (whole_or_long most taken file wide part)
    where
      go : (taken ≡ file) ⊎ ((131072 < length taken) × (131072 < length file)) → Holds file story × (digest ≡ digest_text file)
      go (inl same) = subst (λ (bytes : List ℕ). Holds bytes story × (digest ≡ digest_text bytes)) same (holds, is)
      go (inr (long, all)) = absurd (holds.no_cause TooLong (omega arith) long)

  pub refused_whole : (error : LoadError) → IsRefused taken error → IsRefused file error
  refused_whole error refused = go (whole_or_long most taken file wide part)
    where
      go : (taken ≡ file) ⊎ ((131072 < length taken) × (131072 < length file)) → IsRefused file error
      go (inl same) = subst (λ (bytes : List ℕ). IsRefused bytes error) same refused
      go (inr (long, all)) = record { lowest = long_file error long all refused.lowest; of_file = refused.of_file }

-- what holds of the part that was read, and so of the file
pub reads : (known : Option (List ℕ)) (most : ℕ) (taken : List ℕ) (P : List ℕ → Type 0) → ((file : List ℕ) → known ≡ Some file → taken ≡ take most file)
    → ((file : List ℕ) → taken ≡ take most file → P taken → P file) → P taken → Reads known P
reads None most taken P part along holds = (taken, tt, holds)
reads (Some file) most taken P part along holds = (file, refl, along file (part file refl) holds)
