-- Turns of lenient play, one after another, with what happens between them.
use Rattle.std.proofs.Common.{◌≡◌, ◌⊎◌, inl, inr, ℕ, zero, suc, ◌+◌, ◌<◌, Bool, true, false, List, [], ◌∷◌, ◌++◌, refl, sym, ap, subst, ◌∙◌, append_assoc, add-zero, add-suc, arith}
use Rattle.std.specs.Prelude.{ℤ, Option, Some, None, Result, Ok, Err, IsErrOf, MatchResult, OnErr, if◌then◌else◌}
use Rattle.std.specs.Io.KnownBytes.{Appends, Keeps}
use Rattle.std.proofs.KnownBytes.{Appends-kept, Appends-trans, Appends-nil, prepend_known-nil}
use Rattle.std.proofs.lemmas.List.{append-nil}
use Rattle.zfault.proofs.DeviceLemmas.{AppendsBeginning-whole}
use Rattle.zfault.specs.Devices.{AppendsBeginning}
use Rattle.zfault.specs.declared.fault.Fault.{Fault}
use Rattle.zfault.specs.declared.item.Item.{Item}
use Rattle.zfault.specs.declared.pause.Need.{Need}
use Rattle.zfault.specs.declared.pause.Need.TheVariants as needs
use Rattle.zfault.specs.declared.pause.Pause.TheVariants as pauses
use Rattle.zstate.specs.declared.halt.Halt.{Halt}
use Rattle.zstate.specs.declared.halt.Halt.TheVariants as halts
use Rattle.zstate.specs.declared.halt.Stop.{Stop}
use Rattle.zstate.specs.declared.halt.Stop.TheVariants as stops
use Rattle.zstate.specs.State.{Setting, State}
use Rattle.zstate.specs.Step.{Done, step}
use Rattle.zstate.specs.Run.{Goes, Input, Stands, WantsMemory, awaited, handed, stop_of}
use Rattle.zstate.proofs.Calls.{goes_join}
use Rattle.zlenient.specs.declared.front.Front.{Front}
use Rattle.zlenient.specs.Customary.{is_excusable}
use Rattle.zlenient.specs.Front.{after_step, front_after, is_seen, seen}
use Rattle.zlenient.specs.Laws.{IsPaused}
use Rattle.zlenient.specs.Run.{Note, Played, behind, lenient_run, lenient_until, leniently, noted, or_stands, stands}
use Rattle.zlenient.specs.Step.{instead, lenient_step, or_instead}
use Rattle.zscreen.specs.Rendering.{render}
use Rattle.zscreen.proofs.Joins.{renders}
use Rattle.zplayer.specs.declared.end.End.{End}
use Rattle.zplayer.specs.declared.end.End.TheVariants as play_ends
use Rattle.zplayer.specs.declared.end.PlayError.{PlayError}
use Rattle.zplayer.specs.declared.end.PlayError.TheVariants as errors
use Rattle.zplayer.specs.Lines.{Ahead, unused}
use Rattle.zplayer.specs.Outside.{Coming}
use Rattle.zplayer.specs.World.{Answers, Refuses, Store, World, world}
use Rattle.zplayer.specs.Playing.{Meets, Supplies, Walks, WantsOrSaves, end_of, stage}
use Rattle.zplayer.specs.Leniently.{Answers as Excuses, BreaksLeniently, Excused, FinishesLeniently, Handed, Happening, LeadsLeniently, Noted, PlaysLeniently, PlaysLenientlyInPart, Reach, WantsLeniently, inputs_of, notes_of, reach, with_note, with_notes}
use Rattle.zplayer.specs.LenientCalls.{WritesSeen, WritesSeenInPart, shown}
use Rattle.zplayer.proofs.Stages.{awaits_step, fewer_to_come, meets_join, to_come, walks_join, walks_none}
use Rattle.zscreen.specs.declared.status_lines.StatusLines.{StatusLines}

-- ---- what is seen of what is given out

shown_as : (b : Bool) (items : List Item) → shown b items ≡ (if b then items else [])
shown_as true items = refl
shown_as false items = refl

-- what is written of a turn is what is seen of it
shown_seen : (f : Front) (b : Bool) (items : List Item) → b ≡ is_seen f → shown b items ≡ seen f items
shown_seen f b items is = shown_as b items ∙ ap (λ (c : Bool). if c then items else []) is

none_if : (b : Bool) (items : List Item) → items ≡ [] → (if b then items else []) ≡ items
none_if true items none = refl
none_if false items none = sym none

seen_none : (f : Front) → seen f [] ≡ []
seen_none f = none_if (is_seen f) [] refl

join_if : (b : Bool) (xs ys : List Item) → (if b then xs ++ ys else []) ≡ (if b then xs else []) ++ (if b then ys else [])
join_if true xs ys = refl
join_if false xs ys = refl

seen_join : (f : Front) (xs ys : List Item) → seen f (xs ++ ys) ≡ seen f xs ++ seen f ys
seen_join f xs ys = join_if (is_seen f) xs ys

seen_before : (f g : Front) (items early late xs ys : List Item) → g ≡ f → xs ≡ seen f items → ys ≡ seen g early ++ late → xs ++ ys ≡ seen f (items ++ early) ++ late
seen_before f g items early late xs ys same is are =
    ap (λ (l : List Item). l ++ ys) is ∙ ap (λ (l : List Item). seen f items ++ l) (are ∙ ap (λ (h : Front). seen h early ++ late) same) ∙ sym (append_assoc (seen f items) (seen f early) late) ∙ ap (λ (l : List Item). l ++ late) (sym (seen_join f items early))

-- ---- what leads on, one after another

module _ (m : Setting) (Takes : State → Type 0) where
  excuses_join : (note : Note) (a b c : Reach) (xs ys : List Item) → Walks m a.stage b.stage xs → b.front ≡ a.front → Excuses m note b c ys → Excuses m note a c (xs ++ ys)
  excuses_join note a b c xs ys first same second = record {
    steps = second.steps + first.steps;
    all = omega (arith, first.all, second.all);
    there = second.there;
    goes = goes_join m first.steps second.steps a.stage.state b.stage.state second.there xs ys first.goes second.goes;
    place_is = second.place_is;
    faults = second.faults;
    answered = second.answered;
    front_is = second.front_is ∙ ap (λ (f : Front). front_after m second.there f) same;
    same_world = second.same_world ∙ first.same_world;
  }

  leads_on : (hs gs : List Happening) (a b c : Reach) (xs ys : List Item) → LeadsLeniently m Takes hs a b xs → LeadsLeniently m Takes gs b c ys → LeadsLeniently m Takes (hs ++ gs) a c (xs ++ ys)
  leads_on [] [] a b c xs ys (items, walks, same, is) (more, on, still, are) =
      (items ++ more, walks_join m Takes a.stage b.stage c.stage items more walks on, still ∙ same, ap (λ (l : List Item). l ++ ys) is ∙ ap (λ (l : List Item). seen a.front items ++ l) (are ∙ ap (λ (f : Front). seen f more) same) ∙ sym (seen_join a.front items more))
  leads_on [] (Handed input ∷ gs) a b c xs ys (items, walks, same, is) (at, early, late, meets, still, rest, are) =
      (at, items ++ early, late, meets_join m Takes input a.stage b.stage at.stage items early walks meets, still ∙ same, rest, seen_before a.front b.front items early late xs ys same is are)
  leads_on [] (Excused note ∷ gs) a b c xs ys (items, walks, same, is) (at, early, late, excuses, rest, are) =
      (at, items ++ early, late, excuses_join note a b at items early walks same excuses, rest, seen_before a.front b.front items early late xs ys same is are)
  leads_on (Handed input ∷ hs) gs a b c xs ys (at, early, late, meets, same, rest, is) second =
      (at, early, late ++ ys, meets, same, leads_on hs gs at b c late ys rest second, ap (λ (l : List Item). l ++ ys) is ∙ append_assoc (seen a.front early) late ys)
  leads_on (Excused note ∷ hs) gs a b c xs ys (at, early, late, excuses, rest, is) second =
      (at, early, late ++ ys, excuses, leads_on hs gs at b c late ys rest second, ap (λ (l : List Item). l ++ ys) is ∙ append_assoc (seen a.front early) late ys)

  -- what is handed in where a play stands still
  put_in : (input : Input) (need : Need) (n : ℕ) (t u : State) (w v : World) (f : Front) → awaited m t ≡ Some need → Answers m Takes t need w input v → handed m (halts.Need need) input t ≡ Some u
      → LeadsLeniently m Takes (Handed input ∷ []) (reach n t w f) (reach n u v f) []
  put_in input need n t u w v f awaits answer is = (
    reach n u v f,
    [],
    [],
    record { steps = 0; all = omega arith; there = t; goes = (refl, refl); need = need; awaits = awaits; answer = answer; handed_in = is },
    refl,
    ([], walks_none m Takes (stage n u v), refl, sym (seen_none f)),
    sym (ap (λ (l : List Item). l ++ []) (seen_none f)),
  )

  -- a fault where a play stands still is answered
  excused : (fault : Fault) (n : ℕ) (t u : State) (w : World) (f g : Front) → step m t ≡ Err (halts.Fault fault) → lenient_step m t ≡ Ok (record { state = u; items = [] }) → g ≡ front_after m t f
      → LeadsLeniently m Takes (Excused (record { fault = fault; place = t.place }) ∷ []) (reach (suc n) t w f) (reach n u w g) []
  excused fault n t u w f g faults answered front_is = (
    reach n u w g,
    [],
    [],
    record { steps = 0; all = omega arith; there = t; goes = (refl, refl); place_is = refl; faults = faults; answered = answered; front_is = front_is; same_world = refl },
    ([], walks_none m Takes (stage n u w), refl, sym (seen_none g)),
    sym (ap (λ (l : List Item). l ++ []) (seen_none f)),
  )

-- ---- a play is a lenient run

abbrev the_note : Fault → ℤ → Note
the_note fault place = record { fault = fault; place = place }

abbrev played : Stop → State → List Item → List Note → Played
played stop s items notes = record { ending = record { stop = stop; state = s; items = items }; notes = notes }

behind_nested : (ns ms : List Note) (xs ys : List Item) (p : Played) → behind ns xs (behind ms ys p) ≡ behind (ns ++ ms) (xs ++ ys) p
behind_nested ns ms xs ys p =
    ap (λ (l : List Item). played p.ending.stop p.ending.state l (ns ++ (ms ++ p.notes))) (sym (append_assoc xs ys p.ending.items)) ∙ ap (λ (l : List Note). played p.ending.stop p.ending.state ((xs ++ ys) ++ p.ending.items) l) (sym (append_assoc ns ms p.notes))

behind_none : (f : Front) (p : Played) → behind [] (seen f []) p ≡ p
behind_none f p = ap (λ (l : List Item). behind [] l p) (seen_none f)

module _ (m : Setting) where
  -- what the definition does is done
  step_stays : (s : State) (d : Done) → step m s ≡ Ok d → lenient_step m s ≡ Ok d
  step_stays s d e = ap (λ (r : Result Done Halt). or_instead (λ f. instead m f s) r) e

  module _ (halted : Halt → ℕ → Front → State → Played) where
    until_made : (n : ℕ) (f : Front) (s : State) (d : Done) → step m s ≡ Ok d → lenient_until m halted (suc n) f s ≡ behind [] (seen f d.items) (lenient_until m halted n f d.state)
    unfolding lenient_until
    until_made n f s d e =
        ap (λ (r : Result Done Halt). leniently (or_instead (λ x. instead m x s) r) (λ d. behind (noted r s.place) (seen f d.items) (lenient_until m halted n (after_step m.story s r f) d.state)) (λ h. halted h (suc n) f s)) e

    until_excused : (n : ℕ) (f : Front) (s : State) (fault : Fault) (d : Done) → step m s ≡ Err (halts.Fault fault) → lenient_step m s ≡ Ok d
        → lenient_until m halted (suc n) f s ≡ behind (record { fault = fault; place = s.place } ∷ []) (seen f d.items) (lenient_until m halted n (front_after m s f) d.state)
    unfolding lenient_until
    until_excused n f s fault d faults answered =
        ap (λ (r : Result Done Halt). leniently r (λ d. behind (noted (step m s) s.place) (seen f d.items) (lenient_until m halted n (front_after m s f) d.state)) (λ h. halted h (suc n) f s)) answered
        ∙ ap (λ (r : Result Done Halt). behind (noted r s.place) (seen f d.items) (lenient_until m halted n (front_after m s f) d.state)) faults

    until_halted : (n : ℕ) (f : Front) (s : State) (h : Halt) → lenient_step m s ≡ Err h → lenient_until m halted n f s ≡ halted h n f s
    unfolding lenient_until
    until_halted zero f s h e = ap (λ (r : Result Done Halt). leniently r (λ d. stands (stops.Paused pauses.Budget) s) (λ h. halted h zero f s)) e
    until_halted (suc n) f s h e =
        ap (λ (r : Result Done Halt). leniently r (λ d. behind (noted (step m s) s.place) (seen f d.items) (lenient_until m halted n (front_after m s f) d.state)) (λ h. halted h (suc n) f s)) e

    until_spent : (f : Front) (s : State) (d : Done) → lenient_step m s ≡ Ok d → lenient_until m halted zero f s ≡ stands (stops.Paused pauses.Budget) s
    unfolding lenient_until
    until_spent f s d e = ap (λ (r : Result Done Halt). leniently r (λ d. stands (stops.Paused pauses.Budget) s) (λ h. halted h zero f s)) e

    until_goes : (k n : ℕ) (f : Front) (s t : State) (items : List Item) → Goes m k s t items → lenient_until m halted (n + k) f s ≡ behind [] (seen f items) (lenient_until m halted n f t)
    until_goes zero n f s t items (same, none) = rw (add-zero, same, none) (sym (behind_none f (lenient_until m halted n f s)))
    until_goes (suc k) n f s t items (d, rest, made, goes, all) =
        let first : lenient_until m halted (suc (n + k)) f s ≡ behind [] (seen f d.items) (lenient_until m halted (n + k) f d.state) = until_made (n + k) f s d made in
        let last : Played = lenient_until m halted n f t in
        rw (add-suc, all) (first ∙ ap (behind [] (seen f d.items)) (until_goes k n f d.state t rest goes) ∙ behind_nested [] [] (seen f d.items) (seen f rest) last ∙ ap (λ (l : List Item). behind [] l last) (sym (seen_join f d.items rest)))

  -- what a run does where a step can't be made
  abbrev halted_run : List Input → Halt → ℕ → Front → State → Played
  halted_run [] = λ h k g t. stands (stop_of h t) t
  halted_run (input ∷ inputs) = λ h k g t. or_stands (handed m h input t) (λ u. lenient_run m inputs k g u) (stands (stop_of h t) t)

  run_is : (inputs : List Input) (n : ℕ) (f : Front) (s : State) → lenient_run m inputs n f s ≡ lenient_until m (halted_run inputs) n f s
  unfolding lenient_run
  run_is [] n f s = refl
  run_is (input ∷ inputs) n f s = refl

  run_goes : (k n : ℕ) (f : Front) (s t : State) (items : List Item) (inputs : List Input) → Goes m k s t items → lenient_run m inputs (n + k) f s ≡ behind [] (seen f items) (lenient_run m inputs n f t)
  run_goes k n f s t items inputs goes =
      run_is inputs (n + k) f s ∙ until_goes (halted_run inputs) k n f s t items goes ∙ ap (behind [] (seen f items)) (sym (run_is inputs n f t))

  run_handed : (n : ℕ) (f : Front) (s t : State) (need : Need) (input : Input) (inputs : List Input) → step m s ≡ Err (halts.Need need) → handed m (halts.Need need) input s ≡ Some t → lenient_run m (input ∷ inputs) n f s ≡ lenient_run m inputs n f t
  run_handed n f s t need input inputs stuck is =
      let halts_so : lenient_step m s ≡ Err (halts.Need need) = ap (λ (r : Result Done Halt). or_instead (λ f. instead m f s) r) stuck in
      run_is (input ∷ inputs) n f s ∙ until_halted (halted_run (input ∷ inputs)) n f s (halts.Need need) halts_so ∙ ap (λ (r : Option State). or_stands r (λ u. lenient_run m inputs n f u) (stands (stop_of (halts.Need need) s) s)) is

  run_excused : (n : ℕ) (f : Front) (s t : State) (fault : Fault) (inputs : List Input) → step m s ≡ Err (halts.Fault fault) → lenient_step m s ≡ Ok (record { state = t; items = [] })
      → lenient_run m inputs (suc n) f s ≡ behind (record { fault = fault; place = s.place } ∷ []) [] (lenient_run m inputs n (front_after m s f) t)
  run_excused n f s t fault inputs faults answered =
      run_is inputs (suc n) f s ∙ until_excused (halted_run inputs) n f s fault (record { state = t; items = [] }) faults answered
      ∙ ap (λ (l : List Item). behind (record { fault = fault; place = s.place } ∷ []) l (lenient_until m (halted_run inputs) n (front_after m s f) t)) (seen_none f)
      ∙ ap (behind (record { fault = fault; place = s.place } ∷ []) []) (sym (run_is inputs n (front_after m s f) t))

  -- a lenient run from where one stands still
  run_spent : (k : ℕ) (f : Front) (s : State) (d : Done) → k ≡ 0 → lenient_step m s ≡ Ok d → lenient_run m [] k f s ≡ stands (stops.Paused pauses.Budget) s
  run_spent k f s d none able = rw none (run_is [] 0 f s ∙ until_spent (halted_run []) f s d able)

  run_halts : (k : ℕ) (f : Front) (s : State) (h : Halt) → lenient_step m s ≡ Err h → lenient_run m [] k f s ≡ stands (stop_of h s) s
  run_halts k f s h stuck = run_is [] k f s ∙ until_halted (halted_run []) k f s h stuck

  calm_halts : (k : ℕ) (f : Front) (stop : Stop) (s : State) → IsPaused stop → (h : Halt) → step m s ≡ Err h → stop ≡ stop_of h s → lenient_run m [] k f s ≡ stands stop s
  calm_halts k f stop s paused (halts.Fault fault) stuck why = absurd (subst IsPaused why paused)
  calm_halts k f stop s paused (halts.Need need) stuck why = run_halts k f s (halts.Need need) (ap (λ (r : Result Done Halt). or_instead (λ f. instead m f s) r) stuck) ∙ ap (λ (x : Stop). stands x s) (sym why)
  calm_halts k f stop s paused halts.Quit stuck why = run_halts k f s halts.Quit (ap (λ (r : Result Done Halt). or_instead (λ f. instead m f s) r) stuck) ∙ ap (λ (x : Stop). stands x s) (sym why)
  calm_halts k f stop s paused halts.FrameLimit stuck why = run_halts k f s halts.FrameLimit (ap (λ (r : Result Done Halt). or_instead (λ f. instead m f s) r) stuck) ∙ ap (λ (x : Stop). stands x s) (sym why)

  run_stands : (k : ℕ) (f : Front) (stop : Stop) (s : State) → IsPaused stop → Stands m stop s → (stop ≡ stops.Paused pauses.Budget → k ≡ 0) → lenient_run m [] k f s ≡ stands stop s
  run_stands k f (stops.Paused pauses.Budget) s paused (d, able) none = run_spent k f s d (none refl) (step_stays s d able)
  run_stands k f (stops.Paused pauses.NeedLine) s paused (h, stuck, why) none = calm_halts k f (stops.Paused pauses.NeedLine) s paused h stuck why
  run_stands k f (stops.Paused pauses.NeedRandom) s paused (h, stuck, why) none = calm_halts k f (stops.Paused pauses.NeedRandom) s paused h stuck why
  run_stands k f (stops.Paused pauses.NeedSave) s paused (h, stuck, why) none = calm_halts k f (stops.Paused pauses.NeedSave) s paused h stuck why
  run_stands k f (stops.Paused pauses.NeedRestore) s paused (h, stuck, why) none = calm_halts k f (stops.Paused pauses.NeedRestore) s paused h stuck why
  run_stands k f (stops.Paused pauses.Quit) s paused (h, stuck, why) none = calm_halts k f (stops.Paused pauses.Quit) s paused h stuck why
  run_stands k f (stops.Paused pauses.FrameLimit) s paused (h, stuck, why) none = calm_halts k f (stops.Paused pauses.FrameLimit) s paused h stuck why
  run_stands k f (stops.Fault fault place) s paused still none = absurd paused

module _ (m : Setting) (Takes : State → Type 0) where
  walks_run : (more : List Input) (a b : Reach) (xs : List Item) → Walks m a.stage b.stage xs → lenient_run m more a.stage.left a.front a.stage.state ≡ behind [] (seen a.front xs) (lenient_run m more b.stage.left a.front b.stage.state)
  walks_run more a b xs walks =
      let all : b.stage.left + walks.steps ≡ a.stage.left = omega (arith, walks.all) in
      subst (λ (n : ℕ). lenient_run m more n a.front a.stage.state ≡ behind [] (seen a.front xs) (lenient_run m more b.stage.left a.front b.stage.state)) all (run_goes m walks.steps b.stage.left a.front a.stage.state b.stage.state xs more walks.goes)

  meets_run : (input : Input) (more : List Input) (a b : Reach) (xs : List Item) → Meets m Takes input a.stage b.stage xs → b.front ≡ a.front → lenient_run m (input ∷ more) a.stage.left a.front a.stage.state ≡ behind [] (seen a.front xs) (lenient_run m more b.stage.left b.front b.stage.state)
  meets_run input more a b xs meets same =
      let all : b.stage.left + meets.steps ≡ a.stage.left = omega (arith, meets.all) in
      let to : lenient_run m (input ∷ more) (b.stage.left + meets.steps) a.front a.stage.state ≡ behind [] (seen a.front xs) (lenient_run m (input ∷ more) b.stage.left a.front meets.there) = run_goes m meets.steps b.stage.left a.front a.stage.state meets.there xs (input ∷ more) meets.goes in
      let on : lenient_run m (input ∷ more) b.stage.left a.front meets.there ≡ lenient_run m more b.stage.left a.front b.stage.state = run_handed m b.stage.left a.front meets.there b.stage.state meets.need input more (awaits_step m meets.there meets.need meets.awaits) meets.handed_in in
      let there : lenient_run m more b.stage.left a.front b.stage.state ≡ lenient_run m more b.stage.left b.front b.stage.state = ap (λ (f : Front). lenient_run m more b.stage.left f b.stage.state) (sym same) in
      subst (λ (n : ℕ). lenient_run m (input ∷ more) n a.front a.stage.state ≡ behind [] (seen a.front xs) (lenient_run m more b.stage.left b.front b.stage.state)) all (to ∙ ap (behind [] (seen a.front xs)) (on ∙ there))

  excuses_run : (note : Note) (more : List Input) (a b : Reach) (xs : List Item) → Excuses m note a b xs → lenient_run m more a.stage.left a.front a.stage.state ≡ behind (note ∷ []) (seen a.front xs) (lenient_run m more b.stage.left b.front b.stage.state)
  excuses_run note more a b xs excuses =
      let all : suc b.stage.left + excuses.steps ≡ a.stage.left = omega (arith, excuses.all) in
      let to : lenient_run m more (suc b.stage.left + excuses.steps) a.front a.stage.state ≡ behind [] (seen a.front xs) (lenient_run m more (suc b.stage.left) a.front excuses.there) = run_goes m excuses.steps (suc b.stage.left) a.front a.stage.state excuses.there xs more excuses.goes in
      let noted_at = λ (p : ℤ). the_note note.fault p ∷ [] in
      let on : lenient_run m more (suc b.stage.left) a.front excuses.there ≡ behind (noted_at excuses.there.place) [] (lenient_run m more b.stage.left (front_after m excuses.there a.front) b.stage.state) = run_excused m b.stage.left a.front excuses.there b.stage.state note.fault more excuses.faults excuses.answered in
      let there : behind (noted_at excuses.there.place) [] (lenient_run m more b.stage.left (front_after m excuses.there a.front) b.stage.state) ≡ behind (note ∷ []) [] (lenient_run m more b.stage.left b.front b.stage.state) =
      ap (λ (f : Front). behind (noted_at excuses.there.place) [] (lenient_run m more b.stage.left f b.stage.state)) (sym excuses.front_is) ∙ ap (λ (p : ℤ). behind (noted_at p) [] (lenient_run m more b.stage.left b.front b.stage.state)) (sym excuses.place_is) in
      let last : Played = lenient_run m more b.stage.left b.front b.stage.state in
      subst (λ (n : ℕ). lenient_run m more n a.front a.stage.state ≡ behind (note ∷ []) (seen a.front xs) last) all (to ∙ ap (behind [] (seen a.front xs)) (on ∙ there) ∙ behind_nested [] (note ∷ []) (seen a.front xs) [] last ∙ ap (λ (l : List Item). behind (note ∷ []) l last) (append-nil (seen a.front xs)))

  -- with what happened in a play, and more inputs, the lenient run is what the play gave and noted, and the lenient run from there
  pub leads_lenient_run : (hs : List Happening) (more : List Input) (a b : Reach) (xs : List Item) → LeadsLeniently m Takes hs a b xs → lenient_run m (inputs_of hs ++ more) a.stage.left a.front a.stage.state ≡ behind (notes_of hs) xs (lenient_run m more b.stage.left b.front b.stage.state)
  leads_lenient_run [] more a b xs (items, walks, same, is) =
      walks_run more a b items walks ∙ ap (λ (f : Front). behind [] (seen a.front items) (lenient_run m more b.stage.left f b.stage.state)) (sym same) ∙ ap (λ (l : List Item). behind [] l (lenient_run m more b.stage.left b.front b.stage.state)) (sym is)
  leads_lenient_run (Handed input ∷ hs) more a c xs (b, early, late, meets, same, rest, is) =
      let last : Played = lenient_run m more c.stage.left c.front c.stage.state in
      meets_run input (inputs_of hs ++ more) a b early meets same ∙ ap (behind [] (seen a.front early)) (leads_lenient_run hs more b c late rest) ∙ behind_nested [] (notes_of hs) (seen a.front early) late last ∙ ap (λ (l : List Item). behind (notes_of hs) l last) (sym is)
  leads_lenient_run (Excused note ∷ hs) more a c xs (b, early, late, excuses, rest, is) =
      let last : Played = lenient_run m more c.stage.left c.front c.stage.state in
      excuses_run note (inputs_of hs ++ more) a b early excuses ∙ ap (behind (note ∷ []) (seen a.front early)) (leads_lenient_run hs more b c late rest) ∙ behind_nested (note ∷ []) (notes_of hs) (seen a.front early) late last ∙ ap (λ (l : List Item). behind (note ∷ notes_of hs) l last) (sym is)

  leads_ends : (hs : List Happening) (a b : Reach) (xs : List Item) (stop : Stop) → LeadsLeniently m Takes hs a b xs → lenient_run m [] b.stage.left b.front b.stage.state ≡ stands stop b.stage.state → lenient_run m (inputs_of hs) a.stage.left a.front a.stage.state ≡ behind (notes_of hs) xs (stands stop b.stage.state)
  leads_ends hs a b xs stop leads still =
      subst (λ (l : List Input). lenient_run m l a.stage.left a.front a.stage.state ≡ behind (notes_of hs) xs (stands stop b.stage.state)) (append-nil (inputs_of hs)) (leads_lenient_run hs [] a b xs leads ∙ ap (behind (notes_of hs) xs) still)

-- ---- what is noted of what happened

notes_handed : (hs : List Happening) (input : Input) → notes_of (hs ++ Handed input ∷ []) ≡ notes_of hs
notes_handed [] input = refl
notes_handed (Handed x ∷ hs) input = notes_handed hs input
notes_handed (Excused note ∷ hs) input = ap (λ (l : List Note). note ∷ l) (notes_handed hs input)

notes_excused : (hs : List Happening) (note : Note) → notes_of (hs ++ Excused note ∷ []) ≡ notes_of hs ++ note ∷ []
notes_excused [] note = refl
notes_excused (Handed x ∷ hs) note = notes_excused hs note
notes_excused (Excused other ∷ hs) note = ap (λ (l : List Note). other ∷ l) (notes_excused hs note)

with_one_more : (ns : List Note) (note : Note) (n : Noted) → with_notes (ns ++ note ∷ []) n ≡ with_note note (with_notes ns n)
with_one_more [] note n = refl
with_one_more (x ∷ ns) note n = with_one_more ns note (with_note x n)

-- one more was noted
pub noted_on : (hs : List Happening) (note : Note) (old now new : Noted) → now ≡ with_notes (notes_of hs) old → new ≡ with_note note now → new ≡ with_notes (notes_of (hs ++ Excused note ∷ [])) old
noted_on hs note old now new so_far is =
    is ∙ ap (with_note note) so_far ∙ sym (with_one_more (notes_of hs) note old) ∙ ap (λ (l : List Note). with_notes l old) (sym (notes_excused hs note))

-- and nothing was where something is handed in
pub noted_still : (hs : List Happening) (input : Input) (old now : Noted) → now ≡ with_notes (notes_of hs) old → now ≡ with_notes (notes_of (hs ++ Handed input ∷ [])) old
noted_still hs input old now so_far = so_far ∙ ap (λ (l : List Note). with_notes l old) (sym (notes_handed hs input))

-- ---- what comes of a play so far

-- before the first turn
pub starts : (m : Setting) (Takes : State → Type 0) (asked : StatusLines) (n : ℕ) (s : State) (f : Front) (ahead : Ahead) (input : Option (List ℕ)) (words : Option Coming) (store : Store) (c : Option (List ℕ)) → ahead ≡ record { held = []; ended = false }
    → PlaysLeniently m Takes asked [] (reach n s (world input words store) f) (reach n s (world (unused ahead input) words store) f) c c
starts m Takes asked n s f ahead input words store c is =
    let same : input ≡ unused ahead input = sym (ap (λ (x : Ahead). unused x input) is ∙ prepend_known-nil input) in
    subst (λ (i : Option (List ℕ)). PlaysLeniently m Takes asked [] (reach n s (world input words store) f) (reach n s (world i words store) f) c c) same
    (record { given = []; leads = ([], walks_none m Takes (stage n s (world input words store)), refl, sym (seen_none f)); written = Appends-nil c })

module _ (m : Setting) (Takes : State → Type 0) (asked : StatusLines) (hs : List Happening) (a : Reach) (b : Reach) (x y : Option (List ℕ)) (so_far : PlaysLeniently m Takes asked hs a b x y) where
  plays_on : (gs : List Happening) (c : Reach) (z : Option (List ℕ)) (ys : List Item) → LeadsLeniently m Takes gs b c ys → Appends y z (render asked ys) → PlaysLeniently m Takes asked (hs ++ gs) a c x z
  plays_on gs c z ys leads written = record {
    given = so_far.given ++ ys;
    leads = leads_on m Takes hs gs a b c so_far.given ys so_far.leads leads;
    written = subst (Appends x z) (sym (renders asked so_far.given ys)) (Appends-trans x y z _ _ so_far.written written);
  }

  -- a flush changes nothing
  pub flushed : (z : Option (List ℕ)) → Keeps y z → PlaysLeniently m Takes asked hs a b x z
  flushed z kept = record { given = so_far.given; leads = so_far.leads; written = Appends-kept x y z (render asked so_far.given) so_far.written kept }

  -- of a play that was written as a whole no turn is left
  pub flush_broke : (z : Option (List ℕ)) → Keeps y z → PlaysLenientlyInPart m Takes asked hs a b x z
  flush_broke z kept = record {
    at = b;
    between = y;
    plays = so_far;
    items = [];
    steps = 0;
    few = omega arith;
    all = omega arith;
    goes = (refl, refl);
    same_front = refl;
    same_world = refl;
    written = subst (λ (l : List Item). AppendsBeginning y z (render asked l)) (sym (seen_none b.front)) (AppendsBeginning-whole y y z [] (Appends-nil y) kept);
  }

  -- the play is at its end, where the lenient run from there stands
  pub finishes : (stop : Stop) (z : Option (List ℕ)) → lenient_run m [] b.stage.left b.front b.stage.state ≡ stands stop b.stage.state → ((need : Need) → awaited m b.stage.state ≡ Some need → Refuses need b.stage.world) → Keeps y z
      → FinishesLeniently m Takes asked hs a b x z (end_of stop)
  finishes stop z still refused kept =
      let whole : lenient_run m (inputs_of hs) a.stage.left a.front a.stage.state ≡ behind (notes_of hs) so_far.given (stands stop b.stage.state) = leads_ends m Takes hs a b so_far.given stop so_far.leads still in
      let items : (lenient_run m (inputs_of hs) a.stage.left a.front a.stage.state).ending.items ≡ so_far.given = ap (λ (p : Played). p.ending.items) whole ∙ append-nil so_far.given in
      let notes : (lenient_run m (inputs_of hs) a.stage.left a.front a.stage.state).notes ≡ notes_of hs = ap (λ (p : Played). p.notes) whole ∙ append-nil (notes_of hs) in
      record {
        given = so_far.given;
        leads = so_far.leads;
        ended = ap (λ (p : Played). end_of p.ending.stop) (sym whole);
        state_is = ap (λ (p : Played). p.ending.state) (sym whole);
        whole = sym items;
        noted = sym notes;
        written = Appends-kept x y z (render asked so_far.given) so_far.written kept;
        unanswered = refused;
      }

-- ---- what one turn makes of a play so far

module _ (m : Setting) (Takes : State → Type 0) (asked : StatusLines) (hs : List Happening) (a : Reach) (left : ℕ) (s : State) (w : World) (f : Front) (x y : Option (List ℕ)) (so_far : PlaysLeniently m Takes asked hs a (reach left s w f) x y)
    (n : Setting) (same : n ≡ m) (shows : Bool) (is_shown : shows ≡ is_seen f) (k : ℕ) (t : State) (z : Option (List ℕ)) where
  pub turn_made : WritesSeen n asked shows left k s t y z → PlaysLeniently m Takes asked hs a (reach k t w f) x z
  turn_made turn = subst (λ (l : List Happening). PlaysLeniently m Takes asked l a (reach k t w f) x z) (append-nil hs)
      (plays_on m Takes asked hs a (reach left s w f) x y so_far [] (reach k t w f) z (seen f turn.given)
      (turn.given, record { steps = turn.steps; all = turn.all; goes = subst (λ (i : Setting). Goes i turn.steps s t turn.given) same turn.goes; same_world = refl }, refl, refl)
      (subst (λ (l : List Item). Appends y z (render asked l)) (shown_seen f shows turn.given is_shown) turn.written))

  turn_in_part : WritesSeenInPart n asked shows left k s t y z → PlaysLenientlyInPart m Takes asked hs a (reach k t w f) x z
  turn_in_part turn = record {
    at = reach left s w f;
    between = y;
    plays = so_far;
    items = turn.given;
    steps = turn.steps;
    few = turn.few;
    all = turn.all;
    goes = subst (λ (i : Setting). Goes i turn.steps s t turn.given) same turn.goes;
    same_front = refl;
    same_world = refl;
    written = subst (λ (l : List Item). AppendsBeginning y z (render asked l)) (shown_seen f shows turn.given is_shown) turn.written;
  }

  pub turn_broke : {T : Type 0} (r : Result T PlayError) (error : PlayError) → r ≡ Err error → ¬ IsErrOf r errors.Read → (IsErrOf r errors.OutOfMemory → WritesSeen n asked shows left k s t y z) → (IsErrOf r errors.OutOfMemory → WantsMemory n t)
      → (IsErrOf r errors.Write → WritesSeenInPart n asked shows left k s t y z) → BreaksLeniently m Takes (WantsLeniently m) asked hs a (reach k t w f) x z error
  turn_broke r errors.Read is no_read finished wanted in_part = absurd (no_read is)
  turn_broke r errors.Write is no_read finished wanted in_part = turn_in_part (in_part is)
  turn_broke r errors.OutOfMemory is no_read finished wanted in_part = (turn_made (finished is), inl (inl (subst (λ (i : Setting). WantsMemory i t) same (wanted is))))

-- ---- and what comes behind it

module _ (m : Setting) (Takes : State → Type 0) (asked : StatusLines) (hs : List Happening) (a : Reach) (k : ℕ) (t : State) (input : Option (List ℕ)) (words : Option Coming) (store : Store) (f : Front) (x y : Option (List ℕ))
    (so_far : PlaysLeniently m Takes asked hs a (reach k t (world input words store) f) x y) (n : Setting) (same : n ≡ m) (u : State) (z : Option (List ℕ)) (kept : Keeps y z) where
  abbrev pub here : World
  here = world input words store

  -- the world answers a need
  pub supplied : (v : World) → Supplies n Takes t here true u v → (given : Input) × PlaysLeniently m Takes asked (hs ++ Handed given ∷ []) a (reach k u v f) x z
  supplied v h = go (subst (λ (i : Setting). Supplies i Takes t here true u v) same h)
    where
      go : Supplies m Takes t here true u v → (given : Input) × PlaysLeniently m Takes asked (hs ++ Handed given ∷ []) a (reach k u v f) x z
      go (it, need, awaits, answer, is) =
          (it, flushed m Takes asked (hs ++ Handed it ∷ []) a (reach k u v f) x y (plays_on m Takes asked hs a (reach k t here f) x y so_far (Handed it ∷ []) (reach k u v f) y [] (put_in m Takes it need k t u here v f awaits answer is) (Appends-nil y)) z kept)

  module _ (after : Option Coming) (now : Store) where
    moved : u ≡ t → after ≡ words → now ≡ store → reach k t here f ≡ reach k u (world input after now) f
    moved still undrawn untouched =
        ap (λ (i : State). reach k i here f) (sym still) ∙ ap (λ (i : Option Coming). reach k u (world input i store) f) (sym undrawn) ∙ ap (λ (i : Store). reach k u (world input after i) f) (sym untouched)

    -- or has no answer
    pub stood : (stop : Stop) (l : Setting) → l ≡ m → IsPaused stop → Stands l stop t → (stop ≡ stops.Paused pauses.Budget → k ≡ 0) → (v : World) → v.words ≡ after → v.store ≡ now → Supplies n Takes t here false u v
        → FinishesLeniently m Takes asked hs a (reach k u (world input after now) f) x z (end_of stop)
    stood stop l set paused still none v drawn stored (refused, unmoved, undrawn, untouched) =
        let last : lenient_run m [] k f t ≡ stands stop t = run_stands m k f stop t paused (subst (λ (i : Setting). Stands i stop t) set still) none in
        let finished = finishes m Takes asked hs a (reach k t here f) x y so_far stop z last (λ need awaits. refused need (subst (λ (i : Setting). awaited i t ≡ Some need) (sym same) awaits)) kept in
        subst (λ (b : Reach). FinishesLeniently m Takes asked hs a b x z (end_of stop)) (moved unmoved (sym drawn ∙ undrawn) (sym stored ∙ untouched)) finished

    pub supply_broke : {T : Type 0} (r : Result T PlayError) (error : PlayError) → r ≡ Err error → OnErr r ((u ≡ t) × (after ≡ words) × (now ≡ store)) → (IsErrOf r errors.Read → awaited n t ≡ Some needs.Line) → (IsErrOf r errors.OutOfMemory → WantsOrSaves n t)
        → BreaksLeniently m Takes (WantsLeniently m) asked hs a (reach k u (world input after now) f) x z error
    supply_broke r error is unmoved at_line wanted =
        let still : (u ≡ t) × (after ≡ words) × (now ≡ store) = at_error r error is unmoved in
        subst (λ (b : Reach). BreaksLeniently m Takes (WantsLeniently m) asked hs a b x z error) (moved still.0 still.1 still.2) (by_error error is)
      where
        at_error : {T : Type 0} {P : Type 0} (r : Result T PlayError) (error : PlayError) → r ≡ Err error → OnErr r P → P
        at_error (Ok value) error is h = absurd cc
        at_error (Err e) error is h = h

        by_error : (error : PlayError) → r ≡ Err error → BreaksLeniently m Takes (WantsLeniently m) asked hs a (reach k t here f) x z error
        by_error errors.Read is = (flushed m Takes asked hs a (reach k t here f) x y so_far z kept, subst (λ (i : Setting). awaited i t ≡ Some needs.Line) same (at_line is))
        by_error errors.Write is = flush_broke m Takes asked hs a (reach k t here f) x y so_far z kept
        by_error errors.OutOfMemory is = (flushed m Takes asked hs a (reach k t here f) x y so_far z kept, inl (subst (λ (i : Setting). WantsOrSaves i t) same (wanted is)))

-- ---- a fault is answered, or play ends with it

keeps_itself : (y : Option (List ℕ)) → Keeps y y
keeps_itself None = tt
keeps_itself (Some bytes) = refl

module _ (m : Setting) (Takes : State → Type 0) (asked : StatusLines) (hs : List Happening) (a : Reach) (k : ℕ) (t : State) (w : World) (f : Front) (x y : Option (List ℕ)) (so_far : PlaysLeniently m Takes asked hs a (reach k t w f) x y)
    (n : Setting) (same : n ≡ m) (fault : Fault) (faults : step n t ≡ Err (halts.Fault fault)) where
  pub answered : (rest : ℕ) (u : State) (g : Front) → lenient_step n t ≡ Ok (record { state = u; items = [] }) → k ≡ rest + 1 → g ≡ front_after n t f
      → PlaysLeniently m Takes asked (hs ++ Excused (record { fault = fault; place = t.place }) ∷ []) a (reach rest u w g) x y
  answered rest u g does one front_is =
      let one_more : k ≡ suc rest = omega (arith, one) in
      let there : PlaysLeniently m Takes asked hs a (reach (suc rest) t w f) x y = subst (λ (i : ℕ). PlaysLeniently m Takes asked hs a (reach i t w f) x y) one_more so_far in
      plays_on m Takes asked hs a (reach (suc rest) t w f) x y there (Excused (record { fault = fault; place = t.place }) ∷ []) (reach rest u w g) y []
      (excused m Takes fault rest t u w f g (subst (λ (i : Setting). step i t ≡ Err (halts.Fault fault)) same faults) (subst (λ (i : Setting). lenient_step i t ≡ Ok (record { state = u; items = [] })) same does) (subst (λ (i : Setting). g ≡ front_after i t f) same front_is)) (Appends-nil y)

  -- a fault awaits nothing
  none_awaited : (need : Need) → awaited m t ≡ Some need → Refuses need w
  none_awaited need awaits =
      let stuck : step m t ≡ Err (halts.Need need) = awaits_step m t need awaits in
      let fails : step m t ≡ Err (halts.Fault fault) = subst (λ (i : Setting). step i t ≡ Err (halts.Fault fault)) same faults in
      absurd cc

  pub answer_ended : (end : End) → ((end ≡ play_ends.Budget) × (k ≡ 0) × ((d : Done) × (lenient_step n t ≡ Ok d))) ⊎ ((h : Halt) × (lenient_step n t ≡ Err h) × (end ≡ end_of (stop_of h t)))
      → FinishesLeniently m Takes asked hs a (reach k t w f) x y end
  answer_ended end (inl (is, none, (d, able))) =
      let last : lenient_run m [] k f t ≡ stands (stops.Paused pauses.Budget) t = run_spent m k f t d none (subst (λ (i : Setting). lenient_step i t ≡ Ok d) same able) in
      subst (λ (e : End). FinishesLeniently m Takes asked hs a (reach k t w f) x y e) (sym is) (finishes m Takes asked hs a (reach k t w f) x y so_far (stops.Paused pauses.Budget) y last none_awaited (keeps_itself y))
  answer_ended end (inr (h, stuck, is)) =
      let last : lenient_run m [] k f t ≡ stands (stop_of h t) t = run_halts m k f t h (subst (λ (i : Setting). lenient_step i t ≡ Err h) same stuck) in
      subst (λ (e : End). FinishesLeniently m Takes asked hs a (reach k t w f) x y e) (sym is) (finishes m Takes asked hs a (reach k t w f) x y so_far (stop_of h t) y last none_awaited (keeps_itself y))

  -- or memory is refused for that, and nothing changes
  pub answer_broke : is_excusable fault ≡ true → (error : PlayError) (rest : ℕ) (u : State) (g : Front) → error ≡ errors.OutOfMemory → u ≡ t → g ≡ f → rest ≡ k → BreaksLeniently m Takes (WantsLeniently m) asked hs a (reach rest u w g) x y error
  answer_broke able error rest u g is still shown none =
      let fails : step m t ≡ Err (halts.Fault fault) = subst (λ (i : Setting). step i t ≡ Err (halts.Fault fault)) same faults in
      let broke : BreaksLeniently m Takes (WantsLeniently m) asked hs a (reach k t w f) x y errors.OutOfMemory = (so_far, inr (fault, fails, able)) in
      rw (is, still, shown, none) broke

-- what stands at a fault has it for its next step
pub fault_stands : (m n : Setting) → n ≡ m → (stop : Stop) (fault : Fault) (place : ℤ) (t : State) → stop ≡ stops.Fault fault place → Stands m stop t → step n t ≡ Err (halts.Fault fault)
fault_stands m n same stop fault place t is still = subst (λ (i : Setting). step i t ≡ Err (halts.Fault fault)) (sym same) (go (subst (λ (x : Stop). Stands m x t) is still))
  where
    go : Stands m (stops.Fault fault place) t → step m t ≡ Err (halts.Fault fault)
    go (halts.Fault other, stuck, why) = let it : other ≡ fault = cc in stuck ∙ ap (λ (f : Fault). Err (halts.Fault f)) it
    go (halts.Need need, stuck, why) = absurd cc
    go (halts.Quit, stuck, why) = absurd cc
    go (halts.FrameLimit, stuck, why) = absurd cc

-- an answer is one of the steps that were left
pub answered_to_come : (left k rest : ℕ) (s u : State) (steps : ℕ) → steps + k ≡ left → k ≡ rest + 1 → to_come rest u < to_come left s
answered_to_come left k rest s u steps all one = fewer_to_come rest left s u (omega (arith, all, one))

-- ---- a flush at the end

module _ (m : Setting) (Takes : State → Type 0) (wants : State → Type 0) (asked : StatusLines) (hs : List Happening) (a b : Reach) (x y z : Option (List ℕ)) (kept : Keeps y z) where
  -- that was done
  pub end_flushed : (r : Result End PlayError) → ¬ IsErrOf r errors.Write → MatchResult r (FinishesLeniently m Takes asked hs a b x y) (BreaksLeniently m Takes wants asked hs a b x y) → MatchResult r (FinishesLeniently m Takes asked hs a b x z) (BreaksLeniently m Takes wants asked hs a b x z)
  end_flushed (Ok end) well f = record { given = f.given; leads = f.leads; ended = f.ended; state_is = f.state_is; whole = f.whole; noted = f.noted; written = Appends-kept x y z (render asked f.given) f.written kept; unanswered = f.unanswered }
  end_flushed (Err errors.Read) well (p, awaits) = (flushed m Takes asked hs a b x y p z kept, awaits)
  end_flushed (Err errors.Write) well p = absurd (well refl)
  end_flushed (Err errors.OutOfMemory) well (p, wanted) = (flushed m Takes asked hs a b x y p z kept, wanted)

  -- or wasn't
  pub end_unflushed : (r : Result End PlayError) → ¬ IsErrOf r errors.Write → MatchResult r (FinishesLeniently m Takes asked hs a b x y) (BreaksLeniently m Takes wants asked hs a b x y) → PlaysLenientlyInPart m Takes asked hs a b x z
  end_unflushed (Ok end) well f = flush_broke m Takes asked hs a b x y (record { given = f.given; leads = f.leads; written = f.written }) z kept
  end_unflushed (Err errors.Read) well (p, awaits) = flush_broke m Takes asked hs a b x y p z kept
  end_unflushed (Err errors.Write) well p = absurd (well refl)
  end_unflushed (Err errors.OutOfMemory) well (p, wanted) = flush_broke m Takes asked hs a b x y p z kept
