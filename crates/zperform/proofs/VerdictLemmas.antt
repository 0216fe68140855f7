-- What is known of a file, of which a part was read.
use Rattle.std.proofs.Common.{inr, ◌≡◌, ◌∙◌, ℕ, Bool, true, false, nat_le, leb-true, leb-false, min, List, ◌≤◌, ◌<◌, length, take, length-take, Option, Some, None, ap, sym, refl, arith}
use Rattle.std.specs.Prelude.{IfOk, IfSome, Result, Ok, Err, string_bytes}
use Rattle.std.proofs.lemmas.List.{take_all}
use Rattle.zstory.specs.LoadedStory.{LoadedStory}
use Rattle.zinfo.specs.Info.{heading_of}
use Rattle.zinfo.specs.declared.facts.Heading.{Heading}
use Rattle.zjson.specs.Digest.{digest_text}
use Rattle.zperform.specs.Accepting.{HoldsSuch}
use Rattle.zstory.specs.declared.load_error.LoadError.{LoadError}
use Rattle.zperform.specs.Playing.{Holds, IsUnloaded, Reads}
use Rattle.zperform.specs.Verdicts.{AreFactsOf}
use Rattle.zperform.specs.declared.verdict.Facts.{Facts}
use Rattle.zperform.specs.declared.outcome.Problem.{Problem}
use Rattle.zperform.specs.declared.outcome.Problem.TheVariants.{Refused}
use Rattle.zperform.proofs.AcceptLemmas.{no_story, story_held}
use Rattle.zperform.proofs.StoryFiles.{reads}

module _ (known : Option (List ℕ)) (taken : List ℕ) (part : (file : List ℕ) → known ≡ Some file → taken ≡ take 131073 file) where
  -- a part that is shorter than it may be is the file
  whole : (file : List ℕ) → taken ≡ take 131073 file → length taken < 131073 → taken ≡ file
  whole file e short =
      let few : length file ≤ 131073 = omega (arith, ap length e, length-take 131073 file, short) in
      e ∙ take_all 131073 file few

  digest_known : (text : List ℕ) → length taken < 131073 → text ≡ digest_text taken → Reads known (λ file. text ≡ digest_text file)
  digest_known text short is = reads known 131073 taken (λ file. text ≡ digest_text file) part (λ file e p. p ∙ ap digest_text (whole file e short)) is

  long : 131073 ≤ length taken → Reads known (λ file. 131072 < length file)
  long many = reads known 131073 taken (λ file. 131072 < length file) part (λ file e p. omega (arith, ap length e, length-take 131073 file, p)) many

  heading_known : (heading : Heading) (story : LoadedStory) → Holds taken story → heading ≡ heading_of story → HoldsSuch known (λ story. heading ≡ heading_of story)
  heading_known heading story holds is = (story, story_held known taken part story holds, is)

  pub facts_known : (facts : Facts) → IfSome facts.digest (λ digest. (length taken < 131073) × (string_bytes digest ≡ digest_text taken)) → IfSome facts.heading (λ heading. (story : LoadedStory) × Holds taken story × (heading ≡ heading_of story))
      → (facts.digest ≡ None → 131073 ≤ length taken) → (facts.heading ≡ None → (error : LoadError) × IsUnloaded taken (Refused error)) → (can_fail : Bool) → AreFactsOf known can_fail facts
  facts_known facts digest heading undigested unheaded can_fail = record {
    digest_is = digests string_bytes facts.digest digest;
    heading_is = headings facts.heading heading;
    undigested = λ none. inr (long (undigested none));
    unheaded = λ none. inr (let why = unheaded none in (why.0, no_story known taken part (Refused why.0) why.1));
  }
    where
      digests : {D : Type 0} (bytes_of : D → List ℕ) (d : Option D) → IfSome d (λ digest. (length taken < 131073) × (bytes_of digest ≡ digest_text taken)) → IfSome d (λ digest. Reads known (λ file. bytes_of digest ≡ digest_text file))
      digests bytes_of None h = tt
      digests bytes_of (Some d) (short, is) = digest_known (bytes_of d) short is

      headings : (o : Option Heading) → IfSome o (λ heading. (story : LoadedStory) × Holds taken story × (heading ≡ heading_of story)) → IfSome o (λ heading. HoldsSuch known (λ story. heading ≡ heading_of story))
      headings None h = tt
      headings (Some h) (story, holds, is) = heading_known h story holds is

  -- so, of what came of a file
  pub facts_known_of : (can_fail : Bool) (result : Result Facts Problem)
      → IfOk result (λ facts. IfSome facts.digest (λ digest. (length taken < 131073) × (string_bytes digest ≡ digest_text taken)))
      → IfOk result (λ facts. IfSome facts.heading (λ heading. (story : LoadedStory) × Holds taken story × (heading ≡ heading_of story)))
      → IfOk result (λ facts. facts.digest ≡ None → 131073 ≤ length taken)
      → IfOk result (λ facts. facts.heading ≡ None → (error : LoadError) × IsUnloaded taken (Refused error))
      → IfOk result (AreFactsOf known can_fail)
  facts_known_of can_fail (Ok facts) digest heading undigested unheaded = facts_known facts digest heading undigested unheaded can_fail
  facts_known_of can_fail (Err problem) digest heading undigested unheaded = tt

-- the front of a name
pub front_taken : (name : List ℕ) → take (min (length name) 4096) name ≡ take 4096 name
front_taken name = go (nat_le (length name) 4096) refl
  where
    go : (b : Bool) → nat_le (length name) 4096 ≡ b → take (min (length name) 4096) name ≡ take 4096 name
    go true few =
        let n : length name ≤ 4096 = leb-true (length name) 4096 few in
        ap (λ (k : ℕ). take k name) (let same : min (length name) 4096 ≡ length name = omega arith in same) ∙ take_all (length name) name (omega arith) ∙ sym (take_all 4096 name n)
    go false many =
        let n : 4096 < length name = leb-false (length name) 4096 many in
        ap (λ (k : ℕ). take k name) (let same : min (length name) 4096 ≡ 4096 = omega arith in same)
