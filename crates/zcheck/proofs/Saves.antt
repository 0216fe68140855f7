-- Accepted saves: play goes on from them wherever that is asked for, and runs over them are safe.
use Rattle.std.proofs.Common.{◌≡◌, ℕ, ◌+◌, ◌*◌, ◌/◌, ◌%◌, ◌≤◌, true, List, [], ◌∷◌, length, map, Result, Ok, ℤ, refl, sym, ap, subst, ◌∙◌, arith}
use Rattle.std.specs.Prelude.{nat_le, pos, reverse}
use Rattle.std.proofs.lemmas.Bool.{le-leb}
use Rattle.std.proofs.lemmas.List.{drop-set-lt, length-map, length-reverse}
use Rattle.zstory.specs.Bytes.{byte_at}
use Rattle.zquetzal.specs.declared.error.SaveError.{SaveError}
use Rattle.zquetzal.specs.declared.error.SaveError.TheVariants as errors
use Rattle.zquetzal.specs.Reading.{reading}
use Rattle.zquetzal.specs.Saved.{Saved}
use Rattle.zquetzal.specs.Steps.{◌>>=◌}
use Rattle.zquetzal.proofs.Steps.{bind_ok, need_ok, ok_is}
use Rattle.zdomain.specs.Domain.{SetOperations, AreSound}
use Rattle.zcert.specs.Format.{Format}
use Rattle.zcert.specs.Spelling.{HasSpelling}
use Rattle.zstate.specs.State.{Frame, Scope, State, keeping_flags, scope_all, scope_only}
use Rattle.zstate.specs.Step.{fetch}
use Rattle.zstate.specs.Saves.{going_on, restoring, resumed, save_place, saves, taken_frame, taken_memory, with_frames}
use Rattle.zstate.specs.Run.{Input, Given, Restored}
use Rattle.zrule.specs.declared.rule.Rule.TheVariants as rules
use Rattle.zrule.specs.Claims.{Claims, claims_of}
use Rattle.zrule.specs.Described.{AreFine, Described, IsAcceptedIn, IsFineSave, IsListedIn, IsLoadedStory}
use Rattle.zrule.proofs.Elsewhere.{accepted_fine}
use Rattle.zrule.proofs.Runs.{all_listed}
use Rattle.zcheck.specs.Acceptance.{AcceptanceOver, AreAccepted, IsAcceptedSave, IsListingOf, IsTakenIn, PlaysSafely, PlaysSafelyWithin, playing_in}
use Rattle.zcheck.specs.Passes.{Passes}
use Rattle.zcheck.proofs.Headline.{lists_where, never_changes, never_faults, plays_alike, supports_where}

-- ---- where play goes on

-- frames that are taken over are few, where their callers are
few_taken : (fs : List Frame) (s : State) (limit : ℕ) → length (with_frames fs s).callers ≤ limit → length fs ≤ limit + 1
few_taken [] s limit few = omega arith
few_taken (f ∷ fs) s limit few = omega (arith, few)

place_laid : (fs : List Frame) (s : State) → (with_frames fs s).place ≡ s.place
place_laid [] s = refl
place_laid (f ∷ fs) s = refl

memory_laid : (fs : List Frame) (s : State) → (with_frames fs s).memory ≡ s.memory
memory_laid [] s = refl
memory_laid (f ∷ fs) s = refl

-- an instruction behind the header is the same whichever two bits of Flags 2 stayed, and in each scope that has its place
fetched_alike : (here there : Scope) (p : ℕ) (now before memory : List ℕ) → 64 ≤ p → here.instructions p ≡ true → there.instructions p ≡ true → fetch there (pos p) (keeping_flags now memory) ≡ fetch here (pos p) (keeping_flags before memory)
unfolding fetch
fetched_alike here there p now before memory behind in_here in_there =
    let kept = drop-set-lt p memory 17 (byte_at memory 17 / 4 * 4 + byte_at now 17 % 4) (omega (arith, behind)) in
    let was = drop-set-lt p memory 17 (byte_at memory 17 / 4 * 4 + byte_at before 17 % 4) (omega (arith, behind)) in
    rw (in_here, in_there, kept, was) refl

module _ {V : Type 0} (o : SetOperations V) (lawful : AreSound o) (format : Format V) (a : AcceptanceOver V) (spelling : HasSpelling format a.certificate) (loaded : IsLoadedStory a.story) (passes : Passes o a.story a.certificate) (lists : IsListingOf a.story a.certificate a.listing) where
  abbrev claims : Claims V
  claims = claims_of o a.certificate

  module _ (limit : ℕ) where
    goes : (scope : Scope) (saved : Saved) (s : State) → saves (fetch scope (save_place saved) (resumed a.story saved s).memory) ≡ true → length saved.frames ≤ limit + 1 → going_on (playing_in a.story limit scope) saved s ≡ Ok (resumed a.story saved s)
    unfolding going_on
    goes scope saved s spelled few =
        let low : nat_le (length saved.frames) (limit + 1) ≡ true = le-leb (length saved.frames) (limit + 1) few in
        rw (spelled, low) refl

    -- the bytes are read as the save, and then play goes on
    restores : (scope : Scope) (bytes : List ℕ) (x : IsAcceptedSave o a limit bytes) (s : State) → saves (fetch scope (save_place x.saved) (resumed a.story x.saved s).memory) ≡ true → restoring (playing_in a.story limit scope) bytes s ≡ Ok (resumed a.story x.saved s)
    restores scope bytes x s spelled =
        let fs : List Frame = map taken_frame (reverse x.saved.frames) in
        let as_many : length fs ≡ length x.saved.frames = length-map (reverse x.saved.frames) taken_frame ∙ length-reverse x.saved.frames in
        let few = few_taken fs _ limit x.described.is_state.few in
        ap (λ (r : Result Saved SaveError). r >>= λ saved. going_on (playing_in a.story limit scope) saved s) x.reads ∙ goes scope x.saved s spelled (omega (arith, as_many, few))

    -- so it is accepted somewhere, and leads to described states alone
    accepted_there : (bytes : List ℕ) (x : IsAcceptedSave o a limit bytes) → IsAcceptedIn o claims (playing_in a.story limit (scope_only a.listing)) bytes x.before
    accepted_there bytes x = (resumed a.story x.saved x.before, restores (scope_only a.listing) bytes x x.before x.spelled, x.described)

    fine_in : (scope : Scope) (bytes : List ℕ) → IsAcceptedSave o a limit bytes → IsFineSave o claims (playing_in a.story limit scope) bytes
    fine_in scope bytes x = accepted_fine o claims (playing_in a.story limit (scope_only a.listing)) loaded (supports_where o lawful format a.story a.certificate spelling passes) scope bytes x.before (accepted_there bytes x)

    pub are_fine : (scope : Scope) (inputs : List Input) → AreAccepted o a limit inputs → AreFine o claims (playing_in a.story limit scope) inputs
    are_fine scope [] accepted = tt
    are_fine scope (Given event ∷ inputs) accepted = (tt, are_fine scope inputs accepted.1)
    are_fine scope (Restored bytes ∷ inputs) accepted = (fine_in scope bytes accepted.0, are_fine scope inputs accepted.1)

    -- and play goes on from it everywhere
    pub taken_in : (scope : Scope) → IsListedIn o claims scope → (bytes : List ℕ) → IsAcceptedSave o a limit bytes → IsTakenIn o a limit scope bytes
    taken_in scope listed bytes x s is =
        let d = x.described in
        let fs : List Frame = map taken_frame (reverse x.saved.frames) in
        let memory : List ℕ = taken_memory a.story x.saved.memory in
        let at : save_place x.saved ≡ pos d.at = sym (place_laid fs _) ∙ d.place in
        let static = ((supports_where o lawful format a.story a.certificate spelling passes).each d.at d.entry d.listed refl rules.Decodes).1.static in
        let base = loaded.sound.static_base_above in
        let in_listing = (lists_where o lawful format a.story a.certificate spelling a.listing lists).places d.at d.entry d.listed refl in
        let was : (resumed a.story x.saved x.before).memory ≡ keeping_flags x.before.memory memory = memory_laid fs _ in
        let now : (resumed a.story x.saved s).memory ≡ keeping_flags s.memory memory = memory_laid fs _ in
        let alike : fetch scope (pos d.at) (keeping_flags s.memory memory) ≡ fetch (scope_only a.listing) (pos d.at) (keeping_flags x.before.memory memory) = fetched_alike (scope_only a.listing) scope d.at s.memory x.before.memory memory (omega (arith, static, base)) in_listing (listed.places d.at d.entry d.listed refl) in
        let there : saves (fetch (scope_only a.listing) (pos d.at) (keeping_flags x.before.memory memory)) ≡ true = ap saves (sym (ap (λ (place : ℤ). fetch (scope_only a.listing) place (resumed a.story x.saved x.before).memory) at ∙ ap (fetch (scope_only a.listing) (pos d.at)) was)) ∙ x.spelled in
        let spelled : saves (fetch scope (save_place x.saved) (resumed a.story x.saved s).memory) ≡ true = ap saves (ap (λ (place : ℤ). fetch scope place (resumed a.story x.saved s).memory) at ∙ ap (fetch scope (pos d.at)) now ∙ alike) ∙ there in
        let goes_so = restores scope bytes x s spelled in
        (resumed a.story x.saved s, goes_so, fine_in scope bytes x s (resumed a.story x.saved s) is goes_so)

    -- so what is accepted in one state is accepted
    pub somewhere_accepted : (bytes : List ℕ) (s : State) → IsAcceptedIn o claims (playing_in a.story limit (scope_only a.listing)) bytes s → IsAcceptedSave o a limit bytes
    unfolding going_on
    somewhere_accepted bytes s (t, goes_so, d) =
        let read = bind_ok (reading a.story bytes) _ t goes_so in
        let spelled = need_ok (saves (fetch (scope_only a.listing) (save_place read.0) (resumed a.story read.0 s).memory)) errors.Place _ t read.2 in
        let few = need_ok (nat_le (length read.0.frames) (limit + 1)) errors.NotDescribed _ t spelled.1 in
        record { saved = read.0; reads = read.1; before = s; spelled = spelled.0; described = subst (Described o claims limit a.story) (sym (ok_is _ t few.1)) d }

    safely_within : PlaysSafelyWithin o a limit
    safely_within =
        let safe = never_faults o lawful format a.story a.certificate spelling a.listing loaded passes lists in
        let same = never_changes o lawful format a.story a.certificate spelling a.listing loaded passes lists in
        record {
          listed = λ inputs n accepted. safe.0 limit inputs n (are_fine (scope_only a.listing) inputs accepted);
          everywhere = λ inputs n accepted. safe.1 limit inputs n (are_fine (scope_all a.story) inputs accepted);
          alike = λ inputs n accepted. plays_alike o lawful format a.story a.certificate spelling a.listing loaded passes lists limit inputs n (are_fine (scope_only a.listing) inputs accepted) (are_fine (scope_all a.story) inputs accepted);
          unchanged = λ inputs n p accepted stays. same.0 limit inputs n p (are_fine (scope_only a.listing) inputs accepted) stays;
          taken = taken_in (scope_only a.listing) (lists_where o lawful format a.story a.certificate spelling a.listing lists);
          taken_everywhere = taken_in (scope_all a.story) (all_listed o claims a.story (supports_where o lawful format a.story a.certificate spelling passes));
        }

  pub plays_safely : PlaysSafely o a
  plays_safely limit = safely_within limit
