-- Turns of playing, one after another, with events between them.
use Rattle.std.proofs.Common.{◌≡◌, inl, inr, ℕ, zero, suc, ◌+◌, ◌*◌, ◌<◌, ◌≤◌, Bool, true, false, List, [], ◌∷◌, ◌++◌, refl, sym, ap, subst, ◌∙◌, append_assoc, arith, true≢false}
use Rattle.std.specs.Prelude.{Option, Some, None, Result, Ok, Err, length, map, nat_le, reverse, IsErr, IsErrAnd, IsErrOf, MatchResult, OnErr, is_some, if◌then◌else◌}
use Rattle.std.specs.Io.KnownBytes.{Appends, Keeps}
use Rattle.std.proofs.KnownBytes.{Appends-kept, Appends-trans, Appends-nil, prepend_known-nil}
use Rattle.std.proofs.lemmas.List.{append-nil}
use Rattle.zfault.specs.Answers.{answers}
use Rattle.zfault.proofs.DeviceLemmas.{AppendsBeginning-whole}
use Rattle.zfault.specs.declared.event.Event.{Event}
use Rattle.zfault.specs.declared.event.Event.TheVariants as events
use Rattle.zquetzal.specs.declared.error.SaveError.{SaveError}
use Rattle.zquetzal.specs.declared.error.SaveError.TheVariants as refusals
use Rattle.zquetzal.specs.Saved.{Saved}
use Rattle.zquetzal.specs.Reading.{reading}
use Rattle.zquetzal.proofs.Steps.{bind_ok, need_ok}
use Rattle.zfault.specs.declared.item.Item.{Item}
use Rattle.zfault.specs.declared.pause.Need.{Need}
use Rattle.zfault.specs.declared.pause.Need.TheVariants as needs
use Rattle.zfault.specs.declared.pause.Pause.TheVariants as pauses
use Rattle.zstate.specs.declared.halt.Halt.{Halt}
use Rattle.zstate.specs.declared.halt.Halt.TheVariants as halts
use Rattle.zstate.specs.declared.halt.Stop.{Stop}
use Rattle.zstate.specs.declared.halt.Stop.TheVariants as stops
use Rattle.zstate.specs.State.{Frame, State, Setting, give}
use Rattle.zstate.specs.Step.{Done, fetch, step}
use Rattle.zstate.specs.Saves.{going_on, restoring, resumed, save_place, saves, taken_frame, with_frames}
use Rattle.zstate.specs.Run.{Ending, Input, Given, Restored, after, awaited, ends, handed, need_in, restored, run, Goes, Stands}
use Rattle.zstate.proofs.Joins.{steps_join, inputs_join}
use Rattle.zstate.proofs.Calls.{stands_still, goes_join}
use Rattle.zscreen.specs.Rendering.{render}
use Rattle.zscreen.proofs.Joins.{renders}
use Rattle.zplayer.specs.declared.end.End.{End}
use Rattle.zplayer.specs.declared.end.PlayError.{PlayError}
use Rattle.zplayer.specs.declared.end.PlayError.TheVariants as errors
use Rattle.zplayer.specs.Lines.{Ahead, unused}
use Rattle.zplayer.specs.Outside.{Coming}
use Rattle.zplayer.specs.World.{Answers, Asks, IsRefused, Refuses, Store, World, world}
use Rattle.zplayer.specs.Playing.{Breaks, Finishes, Leads, Meets, Plays, PlaysInPart, Restores, Stage, Supplies, Walks, Writes, WritesInPart, end_of, stage}
use Rattle.zscreen.specs.declared.status_lines.StatusLines.{StatusLines}

-- ---- what the world's answers are to a state that needs them

module _ (m : Setting) (Takes : State → Type 0) (s : State) (old new : World) where
  -- an event that the world answers with is of the kind that is needed
  pub answer_fits : (need : Need) (event : Event) → Answers m Takes s need old (Given event) new → answers need event ≡ true
  answer_fits needs.Line (events.Line line) h = refl
  answer_fits needs.Line (events.Random word) h = absurd h
  answer_fits needs.Line (events.Saved kept) h = absurd h
  answer_fits needs.Line events.NotRestored h = absurd h
  answer_fits needs.Random (events.Line line) h = absurd h
  answer_fits needs.Random (events.Random word) h = refl
  answer_fits needs.Random (events.Saved kept) h = absurd h
  answer_fits needs.Random events.NotRestored h = absurd h
  answer_fits needs.Saved (events.Line line) h = absurd h
  answer_fits needs.Saved (events.Random word) h = absurd h
  answer_fits needs.Saved (events.Saved kept) h = refl
  answer_fits needs.Saved events.NotRestored h = absurd h
  answer_fits needs.Restore (events.Line line) h = absurd h
  answer_fits needs.Restore (events.Random word) h = absurd h
  answer_fits needs.Restore (events.Saved kept) h = absurd h
  answer_fits needs.Restore events.NotRestored h = refl

  -- so it is handed in
  given_in : (need : Need) (event : Event) → Answers m Takes s need old (Given event) new → handed m (halts.Need need) (Given event) s ≡ Some (give event s)
  given_in need event h = ap (λ (b : Bool). if b then Some (give event s) else None) (answer_fits need event h)

-- an event that the world answers with is supplied, and where it has none it refuses what is awaited
module _ (m : Setting) (Takes : State → Type 0) (s t : State) (need : Need) (event : Event) (old new : World) where
  pub event_supplies : awaited m s ≡ Some need → t ≡ give event s → Answers m Takes s need old (Given event) new → Supplies m Takes s old true t new
  event_supplies awaits moved answer = (Given event, need, awaits, answer, given_in m Takes s old new need event answer ∙ ap Some (sym moved))

module _ (m : Setting) (Takes : State → Type 0) (s : State) (need : Need) (old new : World) where
  pub none_supplies : awaited m s ≡ Some need → Asks m Takes s need old None new → Supplies m Takes s old false s new
  none_supplies awaits asks = ((λ other is. let same : need ≡ other = cc in subst (λ (n : Need). Refuses n old) same asks.0), refl, asks.1, asks.2)

-- at a restore, either one is an answer
module _ (m : Setting) (Takes : State → Type 0) (s t : State) (input : Option (List ℕ)) (words : Option Coming) (old new : Store) where
  pub restores_supply : awaited m s ≡ Some needs.Restore → Restores m Takes s old t new → Supplies m Takes s (world input words old) true t (world input words new)
  restores_supply awaits (inl (bytes, gets, (is, taken), same)) = (Restored bytes, needs.Restore, awaits, (gets, (t, (is, taken)), ap (world input words) same), ap restored is)
  restores_supply awaits (inr (none, moved)) = (Given events.NotRestored, needs.Restore, awaits, (none, refl, refl), ap Some (sym moved))

-- machines that take the same saves get the same answers
module _ (m : Setting) (Taken Takes : State → Type 0) (same : (u : State) → (Taken u → Takes u) × (Takes u → Taken u)) (s : State) (old new : World) where
  refused_as : (bytes : List ℕ) (error : SaveError) → IsRefused m Taken bytes s error → IsRefused m Takes bytes s error
  refused_as bytes error (inl is) = inl is
  refused_as bytes error (inr (why, u, is, none)) = inr (why, u, is, λ taken. none ((same u).1 taken))

  answer_as : (need : Need) (input : Input) → Answers m Taken s need old input new → Answers m Takes s need old input new
  answer_as needs.Line (Given (events.Line line)) h = h
  answer_as needs.Line (Given (events.Random word)) h = absurd h
  answer_as needs.Line (Given (events.Saved kept)) h = absurd h
  answer_as needs.Line (Given events.NotRestored) h = absurd h
  answer_as needs.Line (Restored bytes) h = absurd h
  answer_as needs.Random (Given (events.Line line)) h = absurd h
  answer_as needs.Random (Given (events.Random word)) h = h
  answer_as needs.Random (Given (events.Saved kept)) h = absurd h
  answer_as needs.Random (Given events.NotRestored) h = absurd h
  answer_as needs.Random (Restored bytes) h = absurd h
  answer_as needs.Saved (Given (events.Line line)) h = absurd h
  answer_as needs.Saved (Given (events.Random word)) h = absurd h
  answer_as needs.Saved (Given (events.Saved kept)) h = h
  answer_as needs.Saved (Given events.NotRestored) h = absurd h
  answer_as needs.Saved (Restored bytes) h = absurd h
  answer_as needs.Restore (Given (events.Line line)) h = absurd h
  answer_as needs.Restore (Given (events.Random word)) h = absurd h
  answer_as needs.Restore (Given (events.Saved kept)) h = absurd h
  answer_as needs.Restore (Given events.NotRestored) ((kept, inl risen), unread, undrawn) = ((kept, inl risen), unread, undrawn)
  answer_as needs.Restore (Given events.NotRestored) ((kept, inr (quiet, bytes, error, gets, refused, told)), unread, undrawn) = ((kept, inr (quiet, bytes, error, gets, refused_as bytes error refused, told)), unread, undrawn)
  answer_as needs.Restore (Restored bytes) (gets, (u, (reads, taken)), untouched) = (gets, (u, (reads, (same u).0 taken)), untouched)

module _ (m : Setting) (t : State) (need : Need) where
  needed : (made : Result Done Halt) → need_in made ≡ Some need → made ≡ Err (halts.Need need)
  needed (Ok d) is = absurd cc
  needed (Err (halts.Need other)) is = let same : other ≡ need = cc in ap (λ (n : Need). Err (halts.Need n)) same
  needed (Err (halts.Fault f)) is = absurd cc
  needed (Err halts.Quit) is = absurd cc
  needed (Err halts.FrameLimit) is = absurd cc

  split : (b : Bool) → (if b then None else need_in (step m t)) ≡ Some need → (b ≡ false) × (need_in (step m t) ≡ Some need)
  split true is = absurd cc
  split false is = (refl, is)

  pub awaits_step : awaited m t ≡ Some need → step m t ≡ Err (halts.Need need)
  awaits_step is = needed (step m t) (split (is_some t.waiting) is).1

  awaits_none : awaited m t ≡ Some need → is_some t.waiting ≡ false
  awaits_none is = (split (is_some t.waiting) is).0

-- ---- stages one after another

module _ (m : Setting) (Takes : State → Type 0) where
  pub walks_none : (a : Stage) → Walks m a a []
  walks_none a = record { steps = 0; all = omega arith; goes = (refl, refl); same_world = refl }

  pub walks_join : (a b c : Stage) (xs ys : List Item) → Walks m a b xs → Walks m b c ys → Walks m a c (xs ++ ys)
  walks_join a b c xs ys first second = record {
    steps = second.steps + first.steps;
    all = omega (arith, first.all, second.all);
    goes = goes_join m first.steps second.steps a.state b.state c.state xs ys first.goes second.goes;
    same_world = second.same_world ∙ first.same_world;
  }

  pub meets_join : (input : Input) (a b c : Stage) (xs ys : List Item) → Walks m a b xs → Meets m Takes input b c ys → Meets m Takes input a c (xs ++ ys)
  meets_join input a b c xs ys first second = record {
    steps = second.steps + first.steps;
    all = omega (arith, first.all, second.all);
    there = second.there;
    goes = goes_join m first.steps second.steps a.state b.state second.there xs ys first.goes second.goes;
    need = second.need;
    awaits = second.awaits;
    answer = subst (λ (w : World). Answers m Takes second.there second.need w input c.world) first.same_world second.answer;
    handed_in = second.handed_in;
  }

  leads_join : (es fs : List Input) (a b c : Stage) (xs ys : List Item) → Leads m Takes es a b xs → Leads m Takes fs b c ys → Leads m Takes (es ++ fs) a c (xs ++ ys)
  leads_join [] [] a b c xs ys first second = walks_join a b c xs ys first second
  leads_join [] (f ∷ fs) a b c xs ys first (at, early, late, meets, rest, is) =
      (at, xs ++ early, late, meets_join f a b at xs early first meets, rest, ap (λ (l : List Item). xs ++ l) is ∙ sym (append_assoc xs early late))
  leads_join (e ∷ es) fs a b c xs ys (at, early, late, meets, rest, is) second =
      (at, early, late ++ ys, meets, leads_join es fs at b c late ys rest second, ap (λ (l : List Item). l ++ ys) is ∙ append_assoc early late ys)

  -- what is handed in where a play stands still
  put_in : (input : Input) (need : Need) (n : ℕ) (t u : State) (w v : World) → awaited m t ≡ Some need → Answers m Takes t need w input v → handed m (halts.Need need) input t ≡ Some u
      → Leads m Takes (input ∷ []) (stage n t w) (stage n u v) []
  put_in input need n t u w v awaits answer is =
      (stage n u v, [], [], record { steps = 0; all = omega arith; there = t; goes = (refl, refl); need = need; awaits = awaits; answer = answer; handed_in = is }, walks_none (stage n u v), refl)

  -- ---- a play is a run

  after_nested : (xs ys : List Item) (e : Ending) → after xs (after ys e) ≡ after (xs ++ ys) e
  after_nested xs ys e = ap (λ (l : List Item). record e { items = l }) (sym (append_assoc xs ys e.items))

  walks_run : (more : List Input) (a b : Stage) (xs : List Item) → Walks m a b xs → run m more a.left a.state ≡ after xs (run m more b.left b.state)
  walks_run more a b xs walks =
      let all : b.left + walks.steps ≡ a.left = omega (arith, walks.all) in
      subst (λ (n : ℕ). run m more n a.state ≡ after xs (run m more b.left b.state)) all (steps_join m walks.steps b.left a.state b.state xs more walks.goes)

  meets_run : (input : Input) (more : List Input) (a b : Stage) (xs : List Item) → Meets m Takes input a b xs → run m (input ∷ more) a.left a.state ≡ after xs (run m more b.left b.state)
  meets_run input more a b xs meets =
      let all : b.left + meets.steps ≡ a.left = omega (arith, meets.all) in
      let to : run m (input ∷ more) (b.left + meets.steps) a.state ≡ after xs (run m (input ∷ more) b.left meets.there) = steps_join m meets.steps b.left a.state meets.there xs (input ∷ more) meets.goes in
      let on : run m (input ∷ more) b.left meets.there ≡ run m more b.left b.state = inputs_join m b.left meets.there b.state (halts.Need meets.need) input more (awaits_step m meets.there meets.need meets.awaits) meets.handed_in in
      subst (λ (n : ℕ). run m (input ∷ more) n a.state ≡ after xs (run m more b.left b.state)) all (to ∙ ap (after xs) on)

  -- with the inputs of a play, and more, the run is what the play gave and the run from there
  pub leads_run : (es more : List Input) (a b : Stage) (xs : List Item) → Leads m Takes es a b xs → run m (es ++ more) a.left a.state ≡ after xs (run m more b.left b.state)
  leads_run [] more a b xs walks = walks_run more a b xs walks
  leads_run (e ∷ es) more a c xs (b, early, late, meets, rest, is) =
      meets_run e (es ++ more) a b early meets ∙ ap (after early) (leads_run es more b c late rest) ∙ after_nested early late (run m more c.left c.state) ∙ ap (λ (l : List Item). after l (run m more c.left c.state)) (sym is)

  leads_ends : (es : List Input) (a b : Stage) (xs : List Item) (stop : Stop) → Leads m Takes es a b xs → Stands m stop b.state → (stop ≡ stops.Paused pauses.Budget → b.left ≡ 0) → run m es a.left a.state ≡ after xs (ends stop b.state)
  leads_ends es a b xs stop leads stands none =
      subst (λ (l : List Input). run m l a.left a.state ≡ after xs (ends stop b.state)) (append-nil es) (leads_run es [] a b xs leads ∙ ap (after xs) (stands_still m b.left stop b.state stands none))

  module _ (asked : StatusLines) where
    pub plays_none : (a : Stage) (c : Option (List ℕ)) → Plays m Takes asked a a c c
    plays_none a c = record { inputs = []; given = []; leads = walks_none a; written = Appends-nil c }

    -- of a play that was written as a whole no turn is left
    pub no_turn_more : (a b : Stage) (x y z : Option (List ℕ)) → Plays m Takes asked a b x y → Keeps y z → PlaysInPart m Takes asked a b x z
    no_turn_more a b x y z plays kept = record {
      at = b;
      between = y;
      plays = plays;
      turn = record { steps = 0; few = omega arith; given = []; all = omega arith; goes = (refl, refl); written = AppendsBeginning-whole y y z [] (Appends-nil y) kept };
      same_world = refl;
    }

    -- ---- a turn more

    module _ (a : Stage) (n : ℕ) (s : State) (w : World) (x y : Option (List ℕ)) (so_far : Plays m Takes asked a (stage n s w) x y) where
      pub turns_on : (k : ℕ) (t : State) (z : Option (List ℕ)) → Writes m asked n k s t y z → Plays m Takes asked a (stage k t w) x z
      turns_on k t z turn = record {
        inputs = so_far.inputs ++ [];
        given = so_far.given ++ turn.given;
        leads = leads_join so_far.inputs [] a (stage n s w) (stage k t w) so_far.given turn.given so_far.leads (record { steps = turn.steps; all = turn.all; goes = turn.goes; same_world = refl });
        written = subst (Appends x z) (sym (renders asked so_far.given turn.given)) (Appends-trans x y z _ _ so_far.written turn.written);
      }

      pub turns_in_part : (k : ℕ) (t : State) (z : Option (List ℕ)) → WritesInPart m asked n k s t y z → PlaysInPart m Takes asked a (stage k t w) x z
      turns_in_part k t z turn = record { at = stage n s w; between = y; plays = so_far; turn = turn; same_world = refl }

      -- and what the world answers; a flush may come before it
      pub hands_in : (input : Input) (need : Need) (u : State) (v : World) (z : Option (List ℕ)) → awaited m s ≡ Some need → Answers m Takes s need w input v → handed m (halts.Need need) input s ≡ Some u → Keeps y z
          → Plays m Takes asked a (stage n u v) x z
      hands_in input need u v z awaits answer is kept = record {
        inputs = so_far.inputs ++ input ∷ [];
        given = so_far.given ++ [];
        leads = leads_join so_far.inputs (input ∷ []) a (stage n s w) (stage n u v) so_far.given [] so_far.leads (put_in input need n s u w v awaits answer is);
        written = subst (λ (l : List Item). Appends x z (render asked l)) (sym (append-nil so_far.given)) (Appends-kept x y z (render asked so_far.given) so_far.written kept);
      }

      -- or the play is at its end
      pub stands_at_last : (stop : Stop) (z : Option (List ℕ)) → Stands m stop s → (stop ≡ stops.Paused pauses.Budget → n ≡ 0) → ((need : Need) → awaited m s ≡ Some need → Refuses need w) → Keeps y z → Finishes m Takes asked a (stage n s w) x z (end_of stop)
      stands_at_last stop z stands none refused kept =
          let whole : run m so_far.inputs a.left a.state ≡ after so_far.given (ends stop s) = leads_ends so_far.inputs a (stage n s w) so_far.given stop so_far.leads stands none in
          let items : (run m so_far.inputs a.left a.state).items ≡ so_far.given = ap (λ (e : Ending). e.items) whole ∙ append-nil so_far.given in
          record {
            inputs = so_far.inputs;
            given = so_far.given;
            leads = so_far.leads;
            ended = ap (λ (e : Ending). end_of e.stop) (sym whole);
            state_is = ap (λ (e : Ending). e.state) (sym whole);
            whole = sym items;
            written = Appends-kept x y z (render asked so_far.given) so_far.written kept;
            unanswered = refused;
          }

      -- or it broke off: at a flush that failed, or at a line that couldn't be read
      pub flush_broke : (z : Option (List ℕ)) → Keeps y z → PlaysInPart m Takes asked a (stage n s w) x z
      flush_broke z kept = no_turn_more a (stage n s w) x y z so_far kept

      pub flushed : (z : Option (List ℕ)) → Keeps y z → Plays m Takes asked a (stage n s w) x z
      flushed z kept = record { inputs = so_far.inputs; given = so_far.given; leads = so_far.leads; written = Appends-kept x y z (render asked so_far.given) so_far.written kept }

-- ---- what one turn of playing makes of a play so far

-- before the first
pub starts : (m : Setting) (Takes : State → Type 0) (asked : StatusLines) (n : ℕ) (s : State) (ahead : Ahead) (input : Option (List ℕ)) (words : Option Coming) (store : Store) (c : Option (List ℕ)) → ahead ≡ record { held = []; ended = false }
    → Plays m Takes asked (stage n s (world input words store)) (stage n s (world (unused ahead input) words store)) c c
starts m Takes asked n s ahead input words store c is =
    let same : input ≡ unused ahead input = sym (ap (λ (x : Ahead). unused x input) is ∙ prepend_known-nil input) in
    subst (λ (i : Option (List ℕ)). Plays m Takes asked (stage n s (world input words store)) (stage n s (world i words store)) c c) same (plays_none m Takes asked (stage n s (world input words store)) c)

-- what `?` hands on
abbrev pub IsHandedOn : Result End PlayError → PlayError → Type 0
IsHandedOn r error = IsErr r × IsErrAnd r (λ e. e ≡ error)

pub handed_on : (P : End → Type 0) (Q : PlayError → Type 0) (r : Result End PlayError) (error : PlayError) → IsHandedOn r error → Q error → MatchResult r P Q
handed_on P Q (Ok end) error (is, same) h = absurd (true≢false (sym is))
handed_on P Q (Err e) error (is, same) h = subst Q (sym same) h

module _ (m : Setting) (Takes : State → Type 0) (wants : Setting → State → Type 0) (asked : StatusLines) (a : Stage) (left : ℕ) (s : State) (w : World) (x y : Option (List ℕ)) (so_far : Plays m Takes asked a (stage left s w) x y) (n : Setting) (same : n ≡ m) (k : ℕ) (t : State) (z : Option (List ℕ)) where
  pub turn_made : Writes n asked left k s t y z → Plays m Takes asked a (stage k t w) x z
  turn_made turn = turns_on m Takes asked a left s w x y so_far k t z (subst (λ (i : Setting). Writes i asked left k s t y z) same turn)

  pub turn_broke : {T : Type 0} (r : Result T PlayError) (error : PlayError) → r ≡ Err error → ¬ IsErrOf r errors.Read → (IsErrOf r errors.OutOfMemory → Writes n asked left k s t y z) → (IsErrOf r errors.OutOfMemory → wants n t)
      → (IsErrOf r errors.Write → WritesInPart n asked left k s t y z) → Breaks m Takes (wants m) asked a (stage k t w) x z error
  turn_broke r errors.Read is no_read finished wanted in_part = absurd (no_read is)
  turn_broke r errors.Write is no_read finished wanted in_part = turns_in_part m Takes asked a left s w x y so_far k t z (subst (λ (i : Setting). WritesInPart i asked left k s t y z) same (in_part is))
  turn_broke r errors.OutOfMemory is no_read finished wanted in_part = (turn_made (finished is), subst (λ (i : Setting). wants i t) same (wanted is))

module _ (m : Setting) (Takes : State → Type 0) (wants : Setting → State → Type 0) (asked : StatusLines) (a : Stage) (k : ℕ) (t : State) (input : Option (List ℕ)) (words : Option Coming) (store : Store) (x y : Option (List ℕ))
    (so_far : Plays m Takes asked a (stage k t (world input words store)) x y) (n : Setting) (same : n ≡ m) (Taken : State → Type 0) (same_takes : (v : State) → (Taken v → Takes v) × (Takes v → Taken v)) (u : State) (z : Option (List ℕ)) (kept : Keeps y z) where
  abbrev pub here : World
  here = world input words store

  pub supplied : (v : World) → Supplies n Taken t here true u v → Plays m Takes asked a (stage k u v) x z
  supplied v h = go (subst (λ (i : Setting). Supplies i Taken t here true u v) same h)
    where
      go : Supplies m Taken t here true u v → Plays m Takes asked a (stage k u v) x z
      go (it, need, awaits, answer, is) = hands_in m Takes asked a k t here x y so_far it need u v z awaits (answer_as m Taken Takes same_takes t here v need it answer) is kept

  module _ (after : Option Coming) (now : Store) where
    moved : u ≡ t → after ≡ words → now ≡ store → stage k t here ≡ stage k u (world input after now)
    moved still undrawn untouched =
        ap (λ (i : State). stage k i here) (sym still) ∙ ap (λ (i : Option Coming). stage k u (world input i store)) (sym undrawn) ∙ ap (λ (i : Store). stage k u (world input after i)) (sym untouched)

    pub stood : (stop : Stop) (l : Setting) → l ≡ m → Stands l stop t → (stop ≡ stops.Paused pauses.Budget → k ≡ 0) → (v : World) → v.words ≡ after → v.store ≡ now → Supplies n Taken t here false u v
        → Finishes m Takes asked a (stage k u (world input after now)) x z (end_of stop)
    stood stop l set stands none v seen seen_store (refused, still, undrawn, untouched) =
        let finished = stands_at_last m Takes asked a k t here x y so_far stop z (subst (λ (i : Setting). Stands i stop t) set stands) none (λ need awaits. refused need (subst (λ (i : Setting). awaited i t ≡ Some need) (sym same) awaits)) kept in
        subst (λ (b : Stage). Finishes m Takes asked a b x z (end_of stop)) (moved still (sym seen ∙ undrawn) (sym seen_store ∙ untouched)) finished

    pub supply_broke : {T : Type 0} (r : Result T PlayError) (error : PlayError) → r ≡ Err error → OnErr r ((u ≡ t) × (after ≡ words) × (now ≡ store)) → (IsErrOf r errors.Read → awaited n t ≡ Some needs.Line) → (IsErrOf r errors.OutOfMemory → wants n t)
        → Breaks m Takes (wants m) asked a (stage k u (world input after now)) x z error
    supply_broke r error is unmoved at_line wanted =
        let still : (u ≡ t) × (after ≡ words) × (now ≡ store) = at_error r error is unmoved in
        subst (λ (b : Stage). Breaks m Takes (wants m) asked a b x z error) (moved still.0 still.1 still.2) (by_error error is)
      where
        at_error : {T : Type 0} {P : Type 0} (r : Result T PlayError) (error : PlayError) → r ≡ Err error → OnErr r P → P
        at_error (Ok value) error is h = absurd cc
        at_error (Err e) error is h = h

        by_error : (error : PlayError) → r ≡ Err error → Breaks m Takes (wants m) asked a (stage k t here) x z error
        by_error errors.Read is = (flushed m Takes asked a k t here x y so_far z kept, subst (λ (i : Setting). awaited i t ≡ Some needs.Line) same (at_line is))
        by_error errors.Write is = flush_broke m Takes asked a k t here x y so_far z kept
        by_error errors.OutOfMemory is = (flushed m Takes asked a k t here x y so_far z kept, subst (λ (i : Setting). wants i t) same (wanted is))

-- ---- a flush at the end

module _ (m : Setting) (Takes : State → Type 0) (wants : State → Type 0) (asked : StatusLines) (a b : Stage) (x y z : Option (List ℕ)) (kept : Keeps y z) where
  plays_flushed : Plays m Takes asked a b x y → Plays m Takes asked a b x z
  plays_flushed p = record { inputs = p.inputs; given = p.given; leads = p.leads; written = Appends-kept x y z (render asked p.given) p.written kept }

  -- that was done
  pub end_flushed : (r : Result End PlayError) → ¬ IsErrOf r errors.Write → MatchResult r (Finishes m Takes asked a b x y) (Breaks m Takes wants asked a b x y) → MatchResult r (Finishes m Takes asked a b x z) (Breaks m Takes wants asked a b x z)
  end_flushed (Ok end) well f = record { inputs = f.inputs; given = f.given; leads = f.leads; ended = f.ended; state_is = f.state_is; whole = f.whole; written = Appends-kept x y z (render asked f.given) f.written kept; unanswered = f.unanswered }
  end_flushed (Err errors.Read) well (p, awaits) = (plays_flushed p, awaits)
  end_flushed (Err errors.Write) well p = absurd (well refl)
  end_flushed (Err errors.OutOfMemory) well (p, wanted) = (plays_flushed p, wanted)

  -- or wasn't
  pub end_unflushed : (r : Result End PlayError) → ¬ IsErrOf r errors.Write → MatchResult r (Finishes m Takes asked a b x y) (Breaks m Takes wants asked a b x y) → PlaysInPart m Takes asked a b x z
  end_unflushed (Ok end) well f = no_turn_more m Takes asked a b x y z (record { inputs = f.inputs; given = f.given; leads = f.leads; written = f.written }) kept
  end_unflushed (Err errors.Read) well (p, awaits) = no_turn_more m Takes asked a b x y z p kept
  end_unflushed (Err errors.Write) well p = absurd (well refl)
  end_unflushed (Err errors.OutOfMemory) well (p, wanted) = no_turn_more m Takes asked a b x y z p kept

-- ---- fewer steps or an event: turns come to an end

abbrev one_unless : Bool → ℕ
one_unless b = if b then 0 else 1

-- twice the steps that are left, and one more while no event waits
abbrev pub to_come : ℕ → State → ℕ
to_come left s = 2 * left + one_unless (is_some s.waiting)

at_most_one : (b : Bool) → one_unless b ≤ 1
at_most_one true = omega arith
at_most_one false = omega arith

pub fewer_to_come : (k n : ℕ) (s t : State) → k < n → to_come k t < to_come n s
fewer_to_come k n s t fewer = let some : one_unless (is_some t.waiting) ≤ 1 = at_most_one (is_some t.waiting) in omega (arith, fewer, some)

-- play goes on from a save with its outcome waiting
waits_in : (frames : List Frame) (s : State) → (with_frames frames s).waiting ≡ s.waiting
waits_in [] s = refl
waits_in (f ∷ frames) s = refl

resumed_waits : (m : Setting) (saved : Saved) (s u : State) → going_on m saved s ≡ Ok u → is_some u.waiting ≡ true
unfolding going_on
resumed_waits m saved s u is =
    let there = need_ok (saves (fetch m.scope (save_place saved) (resumed m.story saved s).memory)) refusals.Place _ u is in
    let few = need_ok (nat_le (length saved.frames) (m.limit + 1)) refusals.NotDescribed _ u there.1 in
    let same : resumed m.story saved s ≡ u = cc in
    ap (λ (t : State). is_some t.waiting) (sym same) ∙ ap is_some (waits_in (map taken_frame (reverse saved.frames)) _)

restored_waits : (m : Setting) (bytes : List ℕ) (s u : State) → restoring m bytes s ≡ Ok u → is_some u.waiting ≡ true
restored_waits m bytes s u is =
    let read = bind_ok (reading m.story bytes) (λ saved. going_on m saved s) u is in
    resumed_waits m read.0 s u read.2

-- what is handed in waits, or leads to a state with an event that does

handed_waits : (m : Setting) (need : Need) (input : Input) (s u : State) → handed m (halts.Need need) input s ≡ Some u → is_some u.waiting ≡ true
handed_waits m need (Given event) s u is = by (answers need event) is
  where
    by : (b : Bool) → (if b then Some (give event s) else None) ≡ Some u → is_some u.waiting ≡ true
    by true e = let same : give event s ≡ u = cc in ap (λ (t : State). is_some t.waiting) (sym same)
    by false e = absurd cc
handed_waits m needs.Restore (Restored bytes) s u is = by (restoring m bytes s) refl is
  where
    by : (r : Result State SaveError) → restoring m bytes s ≡ r → restored r ≡ Some u → is_some u.waiting ≡ true
    by (Ok t) at e = let same : t ≡ u = cc in restored_waits m bytes s u (at ∙ ap Ok same)
    by (Err x) at e = absurd cc
handed_waits m needs.Line (Restored bytes) s u is = absurd cc
handed_waits m needs.Random (Restored bytes) s u is = absurd cc
handed_waits m needs.Saved (Restored bytes) s u is = absurd cc

-- and where no step led to its need none did before
pub steps_to_come : (m n : Setting) (Taken : State → Type 0) (left k : ℕ) (s t u : State) (w v : World) (steps : ℕ) (given : List Item) → steps + k ≡ left → Goes m steps s t given → Supplies n Taken t w true u v → to_come k u < to_come left s
steps_to_come m n Taken left k s t u w v steps given all goes (input, need, awaits, answer, is) = go steps all goes
  where
    waits : one_unless (is_some u.waiting) ≡ 0
    waits = ap one_unless (handed_waits n need input t u is)

    none : one_unless (is_some t.waiting) ≡ 1
    none = ap (λ (b : Bool). one_unless b) (awaits_none n t need awaits)

    go : (steps : ℕ) → steps + k ≡ left → Goes m steps s t given → to_come k u < to_come left s
    go zero all (still, nothing) =
        let before : one_unless (is_some s.waiting) ≡ 1 = ap (λ (i : State). one_unless (is_some i.waiting)) (sym still) ∙ none in
        rw (waits, before) (omega (arith, all))
    go (suc steps) all goes = rw waits (omega (arith, all))

pub given_to_come : (m n : Setting) (Taken : State → Type 0) (asked : StatusLines) (left k : ℕ) (s t u : State) (w v : World) (y z : Option (List ℕ)) → Writes m asked left k s t y z → Supplies n Taken t w true u v → to_come k u < to_come left s
given_to_come m n Taken asked left k s t u w v y z turn supplied = steps_to_come m n Taken left k s t u w v turn.steps turn.given turn.all turn.goes supplied
