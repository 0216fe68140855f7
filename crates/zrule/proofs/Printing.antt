-- What no play changes is printed in every state: texts, and the name on the status line.
use Rattle.std.proofs.Common.{◌≡◌, ◌⊎◌, inl, inr, ℕ, ◌≤◌, Bool, true, false, List, [], Option, Some, None, Ok, refl, if◌then◌else◌}
use Rattle.std.specs.Prelude.{IsOk, MatchOption, slice_get, ◌==◌}
use Rattle.zfault.specs.declared.item.Status.{Status as StatusLine}
use Rattle.ztext.specs.Words.{text_at}
use Rattle.ztext.specs.Output.{output_at}
use Rattle.ztext.proofs.Printable.{output_at-ok}
use Rattle.ztext.proofs.Sameness.{text_at-same}
use Rattle.zobj.specs.declared.name.ShortName.{ShortName}
use Rattle.zobj.specs.declared.name.ShortName.TheVariants.{Empty, At}
use Rattle.zobj.specs.Names.{short_name}
use Rattle.zdomain.specs.Domain.{SetOperations, AreSound, In}
use Rattle.zstory.specs.LoadedStory.{LoadedStory}
use Rattle.zstate.specs.InTurn.{◌>>=◌}
use Rattle.zstate.specs.Step.{global_word, line_of, naming, of_object, printing, showing, status_of}
use Rattle.zruns.specs.Texts.{HasFixedText}
use Rattle.zrule.specs.Claims.{Claims, frozen_in}
use Rattle.zrule.specs.Rules.{HasLineObject, SupportsWhere}
use Rattle.zrule.specs.Described.{DescribedMemory, IsLoadedStory}
use Rattle.zrule.proofs.Answering.{name_printed}
use Rattle.zrule.proofs.Pieces.{not_below_one, object_known}
use Rattle.zrule.proofs.Unchanged.{abbreviation_same}

module _ {V : Type 0} (o : SetOperations V) (lawful : AreSound o) (claims : Claims V) (story : LoadedStory) (loaded : IsLoadedStory story) {marked : ℕ → Bool} (supports : SupportsWhere o claims marked story) (now : List ℕ) (d : DescribedMemory o claims story now) where
  -- a text that stays as it is
  pub text_printed : (at : ℕ) → HasFixedText story (frozen_in claims) at → IsOk (output_at now at)
  text_printed at rule =
      let found : text_at now at ≡ Some rule.text = text_at-same story.memory now at rule.text d.long rule.found (λ p from below. d.fixed p (rule.fixed p (from, below))) in
      output_at-ok now at rule.text (λ n few. abbreviation_same story loaded.sound loaded.counted (frozen_in claims) now d.long d.fixed supports.abbreviations n few) found

  -- a short name
  pub name_known : (object : ℕ) → 1 ≤ object → object ≤ story.objects → (bytes : List ℕ) × (naming (short_name now object) now ≡ Ok (printing bytes))
  name_known object first last = named (short_name now object) (name_printed o lawful claims story loaded supports now d object first last (short_name now object) refl)
    where
      named : (name : ShortName) → (name ≡ Empty) ⊎ ((at : ℕ) × (bytes : List ℕ) × (name ≡ At at) × (output_at now at ≡ Ok bytes)) → (bytes : List ℕ) × (naming name now ≡ Ok (printing bytes))
      named name (inl is) = ([], rw is refl)
      named name (inr (at, bytes, is, printed)) = (bytes, rw (is, printed) refl)

  -- the object that the line names is one, or none
  line_object : HasLineObject o claims story → global_word story 16 now ≤ story.objects
  line_object rule = by (slice_get claims.globals 0) refl rule
    where
      by : (a : Option V) → slice_get claims.globals 0 ≡ a → MatchOption a ⊥ (λ a. (x : ℕ) → In o a x → x ≤ story.objects) → global_word story 16 now ≤ story.objects
      by None e h = absurd h
      by (Some a) e h = h _ (d.values 0 a e)

  -- so there is a line
  pub line_shown : HasLineObject o claims story → (line : StatusLine) × (status_of story now ≡ Ok (showing line))
  line_shown rule = by_zero (global_word story 16 now == 0) refl
    where
      by_zero : (b : Bool) → (global_word story 16 now == 0) ≡ b → (line : StatusLine) × ((if b then Ok (showing (line_of story now [])) else (of_object story (global_word story 16 now) (naming (short_name now (global_word story 16 now)) now) >>= λ named. Ok (showing (line_of story now named.bytes)))) ≡ Ok (showing line))
      by_zero true e = (line_of story now [], refl)
      by_zero false e =
          let x = global_word story 16 now in
          let first = not_below_one x e in
          let last = line_object rule in
          let known = object_known story.objects x (first, last) in
          let name = name_known x first last in
          let is = name.1 in
          (line_of story now name.0, rw (known, is) refl)
