-- Values of the definitions, computed.
use Rattle.std.proofs.Common.{◌≡◌, ◌≢◌, ◌⊎◌, ◌<◌, ◌≤◌, ◌^◌, ◌-◌, inl, inr, ℕ, zero, suc, Bool, true, false, List, [], ◌∷◌, ◌++◌, length, replicate, Option, Some, None, Ok, Err, refl, sym, ap, subst, ◌∙◌, true≢false, arith}
use Rattle.std.specs.Prelude.{pos, ⊤}
use Rattle.std.specs.List.{All}
use Rattle.std.proofs.lemmas.List.Elements.{All-cons, All-nil}
use Rattle.rand_core.specs.Steps.{stream_of, u32_at, word_bytes}
use Rattle.rand_core.specs.Stream.{fill_bytes}
use Rattle.zfault.specs.declared.event.Event.TheVariants as events
use Rattle.zfault.specs.declared.fault.Fault.TheVariants.{IllegalOpcode}
use Rattle.zfault.specs.declared.item.Item.{Item}
use Rattle.zfault.specs.declared.pause.Need.TheVariants as needs
use Rattle.zfault.specs.declared.pause.Pause.TheVariants as pauses
use Rattle.zquetzal.specs.declared.error.SaveError.{SaveError}
use Rattle.zquetzal.specs.declared.error.SaveError.TheVariants.{Compressed, NotDescribed}
use Rattle.zstate.specs.declared.halt.Stop.TheVariants as stops
use Rattle.zstate.specs.State.{State, Setting}
use Rattle.zstate.specs.Saves.{restoring}
use Rattle.zfault.specs.Devices.{AppendsBeginning}
use Rattle.zscreen.specs.Rendering.{render}
use Rattle.zstate.specs.Run.{Given, GivesOut, Goes, Restored, WantsMemory, awaited}
use Rattle.zplayer.specs.declared.end.End.TheVariants as ends
use Rattle.zplayer.specs.declared.end.PlayError.TheVariants as errors
use Rattle.zplayer.specs.declared.lines.LineEnd.TheVariants.{Newline, Input}
use Rattle.zplayer.specs.declared.lines.TheConstants.{KEPT, PIECE}
use Rattle.zplayer.specs.declared.turns.TheConstants.{TURN}
use Rattle.zplayer.specs.declared.outside.World.{World as Devices}
use Rattle.zplayer.specs.Devices.{SameDevices, seen}
use Rattle.zplayer.specs.Lines.{BlamesReader, IsEnded, IsLast, ReadsLine, Hears, Takes, line_of, without_return}
use Rattle.zplayer.specs.Outside.{Blames, BlamesWriter, Coming, CountsRefusal, words_of}
use Rattle.zplayer.specs.Playing.{Breaks, GivesOrSaves, Leads, Meets, Plays, PlaysInPart, Stage, Walks, WantsOrSaves, Writes, WritesInPart, end_of, stage}
use Rattle.zplayer.specs.World.{Answers, Asks, Draws, Gets, HasNone, IsRefused, Puts, Refuses, Resumes, Store, Stores, World, world}
use Rattle.zscreen.specs.declared.status_lines.StatusLines.{StatusLines}

-- ---- how playing ends

-- a need that nothing answers is a want of input
no_input : (end_of (stops.Paused pauses.NeedLine) ≡ ends.NoInput) × (end_of (stops.Paused pauses.NeedRandom) ≡ ends.NoInput) × (end_of (stops.Paused pauses.NeedSave) ≡ ends.NoInput) × (end_of (stops.Paused pauses.NeedRestore) ≡ ends.NoInput)
no_input = (refl, refl, refl, refl)

others : (end_of (stops.Paused pauses.Budget) ≡ ends.Budget) × (end_of (stops.Paused pauses.Quit) ≡ ends.Quit) × (end_of (stops.Paused pauses.FrameLimit) ≡ ends.FrameLimit) × (end_of (stops.Fault IllegalOpcode (pos 804)) ≡ ends.Fault IllegalOpcode (pos 804))
others = (refl, refl, refl, refl)

-- the steps of a turn, the bytes of a read, and those that tell a line
constants : (TURN ≡ 1024) × (PIECE ≡ 256) × (KEPT ≡ 255)
constants = (refl, refl, refl)

-- ---- devices

-- a call that was done leaves the count as it was
done : CountsRefusal 3 3 true
done = refl

not_done : CountsRefusal 3 4 true → ⊥
not_done same = omega (arith, same)

-- one that wasn't is counted once
refused : CountsRefusal 3 4 false × (CountsRefusal 3 5 false → ⊥)
refused = (refl, λ rises. omega (arith, rises))

-- a device is blamed where it fails, and nowhere else
blamed : Blames ⊤ 3 4 × Blames ⊥ 3 3 × (Blames ⊥ 3 4 → ⊥) × (Blames ⊤ 3 3 → ⊥)
blamed = (((λ is. refl), (λ other. absurd (other tt))), ((λ is. absurd is), (λ other. refl)), (λ b. omega (arith, b.1 (λ is. is))), (λ b. omega (arith, b.0 tt)))

-- of a writer that sees to it nothing waits, and a reader that gave its last has no byte left
seen_to :
    BlamesWriter (λ (n : ℕ). n) (λ n. false) 3 3 ⊥ ⊤ × (BlamesWriter (λ (n : ℕ). n) (λ n. true) 3 3 ⊥ ⊤ → ⊥) × (BlamesWriter (λ (n : ℕ). n) (λ n. false) 3 4 ⊥ ⊤ → ⊥)
    × (BlamesReader (λ (n : ℕ). Some (1 ∷ [])) (λ (n : ℕ). n) 3 3 (record { held = []; ended = true }) ⊥ → ⊥)
seen_to = (record { blamed = blamed.1; flushed = λ seen. refl }, (λ w. absurd (true≢false (w.flushed tt))), (λ w. blamed.2 w.blamed), λ r. absurd (let e : 1 ∷ [] ≡ [] = r.ended refl in cc))

-- of a world is seen what its devices tell, behind what was read ahead; with another reader it isn't the same
module _ {R W S G : Type 0} (devices : Devices R W S G) where
  seen_behind : seen (λ _. Some (3 ∷ [])) (λ _. None) (λ _. Some None) (λ _. 2) (record { held = 1 ∷ 2 ∷ []; ended = false }) devices [] ≡ world (Some (1 ∷ 2 ∷ 3 ∷ [])) None (record { kept = Some None; failures = 2; refusals = [] })
  seen_behind = refl

  same : SameDevices devices devices × (SameDevices devices (record devices { reader = record devices.reader { ghost_name = suc devices.reader.ghost_name } }) → ⊥)
  same = (record { reader = refl; writer = refl; store = refl; words = refl }, λ s. omega (arith, s.reader))

-- ---- words

-- the first words of the seeds 1 and 0
seeded : (words_of 1 0 ≡ 36324) × (words_of 1 1 ≡ 613) × (words_of 1 2 ≡ 10168) × (words_of 0 0 ≡ 55971) × (words_of 0 1 ≡ 11096)
unfolding u32_at stream_of word_bytes fill_bytes
seeded = (refl, refl, refl, refl, refl)

three : Coming
three zero = 7
three (suc zero) = 8
three (suc (suc k)) = 9

-- each word is drawn once, in order
drawn : Draws (Some three) 7 (Some (λ k. three (suc k))) × Draws (Some (λ k. three (suc k))) 8 (Some (λ k. three (suc (suc k)))) × Draws None 3 None × (Draws (Some three) 8 (Some (λ k. three (suc k))) → ⊥)
unfolding three
drawn = ((refl, refl), (refl, refl), tt, λ d. omega (arith, d.0))

-- ---- lines: "go" CR LF "n" LF "e"

unbroken : (a b : ℕ) → a ≢ 10 → b ≢ 10 → All (λ byte. byte ≢ 10) (a ∷ b ∷ [])
unbroken a b p q = All-cons (λ byte. byte ≢ 10) a (b ∷ []) p (All-cons (λ byte. byte ≢ 10) b [] q (All-nil (λ byte. byte ≢ 10)))

returns : (without_return (103 ∷ 111 ∷ 13 ∷ []) ≡ 103 ∷ 111 ∷ []) × (without_return (103 ∷ 13 ∷ 111 ∷ []) ≡ 103 ∷ 13 ∷ 111 ∷ []) × (without_return (13 ∷ 13 ∷ []) ≡ 13 ∷ []) × (without_return [] ≡ [])
returns = (refl, refl, refl, refl)

-- a line that is empty is a line, and no byte at the end of the input is none; a return at the end of the input stays
ended : (line_of [] Newline ≡ Some []) × (line_of (13 ∷ []) Newline ≡ Some []) × (line_of [] Input ≡ None) × (line_of (13 ∷ []) Input ≡ Some (13 ∷ []))
ended = (refl, refl, refl, refl)

-- of a longer line the first 254 bytes are kept, also where a return follows them
long : (line_of (replicate 255 120) Newline ≡ Some (replicate 254 120)) × (line_of (replicate 255 120) Input ≡ Some (replicate 254 120)) × (line_of (replicate 254 120 ++ 13 ∷ []) Newline ≡ Some (replicate 254 120)) × (line_of (replicate 253 120 ++ 13 ∷ []) Newline ≡ Some (replicate 253 120))
long = (refl, refl, refl, refl)

-- byte by byte, of which as many are kept as tell that a line is too long; its end is a newline, or that of the input
taken : Takes (Some (103 ∷ 10 ∷ [])) (Some (10 ∷ [])) (7 ∷ []) (7 ∷ 103 ∷ []) None × Takes (Some (120 ∷ [])) (Some []) (replicate 255 120) (replicate 255 120) None × Takes (Some (10 ∷ 7 ∷ [])) (Some (7 ∷ [])) (103 ∷ []) (103 ∷ []) (Some Newline) × Takes (Some []) (Some []) (103 ∷ []) (103 ∷ []) (Some Input) × (Takes (Some (10 ∷ [])) (Some []) [] [] (Some Input) → ⊥)
taken = ((103, refl, (λ e. omega (arith, e)), refl), (120, refl, (λ e. omega (arith, e)), refl), (refl, refl), (refl, refl, refl), λ t. let e = t.0 in cc)

-- of all bytes only 10 is none of a line
not_taken : (Takes (Some (10 ∷ [])) (Some []) (7 ∷ []) (7 ∷ 10 ∷ []) None → ⊥) × Takes (Some (11 ∷ [])) (Some []) (7 ∷ []) (7 ∷ 11 ∷ []) None
not_taken = ((λ t. t.2 (let e = t.1 in cc)), (11, refl, (λ e. omega (arith, e)), refl))

-- a line is taken from the front, and what is behind its end is left
first : ReadsLine (Some (110 ∷ 111 ∷ 13 ∷ 10 ∷ 101 ∷ [])) (110 ∷ 111 ∷ []) (Some (101 ∷ []))
first = λ few. inl (record { text = 110 ∷ 111 ∷ 13 ∷ []; whole = refl; unbroken = All-cons (λ byte. byte ≢ 10) 110 (111 ∷ 13 ∷ []) (λ e. omega (arith, e)) (unbroken 111 13 (λ e. omega (arith, e)) (λ e. omega (arith, e))); line_is = refl })

last : ReadsLine (Some (101 ∷ 13 ∷ [])) (101 ∷ 13 ∷ []) (Some [])
last = λ few. inr (record { some = λ e. cc; unbroken = unbroken 101 13 (λ e. omega (arith, e)) (λ e. omega (arith, e)); line_is = refl; rest_is = refl })

-- known bytes stay known
known : (ReadsLine (Some (101 ∷ [])) (101 ∷ []) None → ⊥) × ReadsLine None (101 ∷ []) (Some [])
known = (λ h. h, tt)

-- a line that is heard is the next one, and what is left of known bytes stays known
heard : Hears (Some (110 ∷ 111 ∷ 13 ∷ 10 ∷ 101 ∷ [])) (Some (110 ∷ 111 ∷ [])) (Some (101 ∷ [])) × ((line : List ℕ) → Hears (Some (101 ∷ [])) (Some line) None → ⊥)
heard = (first, λ line h. h)

-- there is no line where no byte is left, and none is told where that isn't known
none_left : Hears (Some []) None (Some []) × (Hears (Some (10 ∷ [])) None (Some []) → ⊥) × Hears None None None
none_left = (refl, λ e. cc, tt)

-- ---- saves

-- a store keeps what it was given, and where it fails what it kept; one that keeps nothing gives nothing
kept : Puts (Some None) (1 ∷ []) true (Some (Some (1 ∷ []))) × Puts (Some (Some (2 ∷ []))) (1 ∷ []) false (Some (Some (2 ∷ []))) × (Puts (Some None) (1 ∷ []) true (Some (Some (2 ∷ []))) → ⊥) × (Puts (Some (Some (2 ∷ []))) (1 ∷ []) true None → ⊥)
kept = (refl, refl, (λ e. cc), λ e. cc)

-- and it fails just where it doesn't keep it
stored : Stores (record { kept = None; failures = 3; refusals = [] }) [] false (record { kept = None; failures = 4; refusals = [] }) × (Stores (record { kept = None; failures = 3; refusals = [] }) [] true (record { kept = None; failures = 4; refusals = [] }) → ⊥) × Stores (record { kept = Some None; failures = 3; refusals = [] }) (1 ∷ []) true (record { kept = Some (Some (1 ∷ [])); failures = 3; refusals = [] })
stored = ((tt, refl, refl), (λ s. omega (arith, s.1)), (refl, refl, refl))

-- it isn't told of any refusal there
not_refused_then : Stores (record { kept = None; failures = 3; refusals = Compressed ∷ [] }) [] true (record { kept = None; failures = 3; refusals = [] }) → ⊥
not_refused_then stores = let e : [] ≡ Compressed ∷ [] = stores.2 in absurd cc

gets : Gets (Some (Some (1 ∷ []))) (1 ∷ []) × (Gets (Some (Some (1 ∷ []))) (2 ∷ []) → ⊥) × (Gets (Some None) (1 ∷ []) → ⊥)
gets = (refl, (λ e. cc), λ e. cc)

-- the end of a line keeps what was kept, and a line is an ended or the last one of the bytes that were there
line_ends : (old new : Option (List ℕ)) (front now : List ℕ) → (Takes old new front now (Some Newline) → now ≡ front) × (Takes old new front now (Some Input) → now ≡ front)
line_ends old new front now = ((λ taken. taken.1), λ taken. taken.2)

line_read : (bytes line rest : List ℕ) → length bytes < 2 ^ 64 - 1 → ReadsLine (Some bytes) line (Some rest) → IsEnded bytes line rest ⊎ IsLast bytes line rest
line_read bytes line rest few read = read few

-- ---- the world

module _ (m : Setting) (s : State) (store : Store) where
  abbrev any : State → Type 0
  any t = ⊤

  abbrev silent : World
  silent = world None None store

  -- a line goes to a line, and a word to a random word, and neither one does to a save
  answered : Answers m any s needs.Line silent (Given (events.Line (110 ∷ []))) silent × (Answers m any s needs.Random silent (Given (events.Line [])) silent → ⊥) × (Answers m any s needs.Saved silent (Given events.NotRestored) silent → ⊥) × (Answers m any s needs.Restore silent (Given (events.Saved true)) silent → ⊥) × (Answers m any s needs.Line silent (Restored []) silent → ⊥)
  answered = ((tt, refl, refl), (λ h. h), (λ h. h), (λ h. h), λ h. h)

  -- only where no byte is left there is no line, and there is always a word, and an answer to a save
  unanswered : Refuses needs.Line (world (Some []) None store) × (Refuses needs.Line (world (Some (10 ∷ [])) None store) → ⊥) × (Refuses needs.Random silent → ⊥) × (Refuses needs.Saved silent → ⊥) × (Refuses needs.Restore silent → ⊥)
  unanswered = (refl, (λ e. cc), (λ h. h), (λ h. h), λ h. h)

  -- a store that keeps nothing fails, and then there is no save
  empty : Answers m any s needs.Restore (world None None (record { kept = Some None; failures = 3; refusals = [] })) (Given events.NotRestored) (world None None (record { kept = Some None; failures = 4; refusals = [] }))
  empty = ((refl, inl (refl, refl)), refl, refl)

  -- a player asks for an answer, or has none at the end of the input
  asked : Asks m any s needs.Line (world (Some []) None store) None (world (Some []) None store) × Asks m any s needs.Line silent (Some (events.Line (110 ∷ []))) silent × (Asks m any s needs.Line (world (Some (10 ∷ [])) None store) None silent → ⊥) × (Asks m any s needs.Random silent (Some (events.Line [])) silent → ⊥)
  asked = ((refl, refl, refl), (tt, refl, refl), (λ a. let e = a.0 in cc), λ a. a)

  -- play goes on from the state that a restore asks in, and with no input left a play only walks on
  resumed : (bytes : List ℕ) (old new : State) → restoring m bytes old ≡ Ok new → Resumes m any bytes old new
  resumed bytes old new goes_on = (goes_on, tt)

  walked : (old new : Stage) (given : List Item) → Leads m any [] old new given → Walks m old new given
  walked old new given leads = leads

  -- where there is no answer, no word is drawn and no save is put away
  untouched :
      (Asks m any s needs.Line (world (Some []) None store) None (world (Some []) (Some (λ k. 7)) store) → ⊥)
      × (Asks m any s needs.Line (world (Some []) None (record { kept = None; failures = 3; refusals = [] })) None (world (Some []) None (record { kept = None; failures = 4; refusals = [] })) → ⊥)
  untouched = ((λ a. let e = a.1 in cc), λ a. let e = ap (λ (x : Store). x.failures) a.2 in omega (arith, e))

-- bytes that are refused lead to no state in which play goes on
never_resumes : (m : Setting) (Takes : State → Type 0) (bytes : List ℕ) (s t : State) (error : SaveError) → IsRefused m Takes bytes s error → Resumes m Takes bytes s t → ⊥
never_resumes m Takes bytes s t error (inl is) (goes_on, taken) = absurd cc
never_resumes m Takes bytes s t error (inr (why, u, is, none)) (goes_on, taken) = let same : t ≡ u = cc in none (subst Takes same taken)

-- of a store that keeps a save and doesn't fail, the machine is told that there is none only where it doesn't go on from it
not_told : (m : Setting) (Takes : State → Type 0) (s t : State) (save : List ℕ) (before now : List SaveError) → Resumes m Takes save s t
    → HasNone m Takes s (record { kept = Some (Some save); failures = 3; refusals = before }) (record { kept = Some (Some save); failures = 3; refusals = now }) → ⊥
not_told m Takes s t save before now goes_on (same, inl (risen, untold)) = omega (arith, risen)
not_told m Takes s t save before now goes_on (same, inr (quiet, bytes, error, given, refused, is)) =
    let whole : save ≡ bytes = cc in never_resumes m Takes bytes s t error refused (subst (λ (b : List ℕ). Resumes m Takes b s t) whole goes_on)

-- such a store is told once, and of the refusal that is the machine's
module _ (m : Setting) (Takes : State → Type 0) (s : State) (save : List ℕ) (before now : List SaveError) where
  abbrev kept_one : List SaveError → Store
  kept_one refusals = record { kept = Some (Some save); failures = 3; refusals = refusals }

  told_once : restoring m save s ≡ Err Compressed → HasNone m Takes s (kept_one before) (kept_one now) → now ≡ Compressed ∷ before
  told_once why (same, inl (risen, untold)) = absurd (omega (arith, risen))
  told_once why (same, inr (quiet, bytes, error, given, inl refused, is)) =
      let whole : save ≡ bytes = cc in
      let there : restoring m save s ≡ Err error = subst (λ (b : List ℕ). restoring m b s ≡ Err error) (sym whole) refused in
      let one : error ≡ Compressed = cc in
      is ∙ ap (λ (e : SaveError). e ∷ before) one
  told_once why (same, inr (quiet, bytes, error, given, inr (other, t, goes_on, untaken), is)) =
      let whole : save ≡ bytes = cc in
      let there : restoring m save s ≡ Ok t = subst (λ (b : List ℕ). restoring m b s ≡ Ok t) (sym whole) goes_on in
      absurd cc

  -- a save that leads to a state which the machine doesn't take is refused for that alone
  untaken : (t : State) → restoring m save s ≡ Ok t → (Takes t → ⊥) → IsRefused m Takes save s NotDescribed × ((error : SaveError) → IsRefused m Takes save s error → error ≡ NotDescribed)
  untaken t goes_on none = (inr (refl, t, goes_on, none), by)
    where
      by : (error : SaveError) → IsRefused m Takes save s error → error ≡ NotDescribed
      by error (inl is) = absurd cc
      by error (inr (why, u, is, out)) = why

  -- a store that fails isn't told of a refusal
  untold : HasNone m Takes s (record { kept = None; failures = 3; refusals = before }) (record { kept = None; failures = 4; refusals = now }) → now ≡ before
  untold (same, inl (risen, is)) = is
  untold (same, inr (quiet, bytes, error, gets, refused, is)) = absurd (omega (arith, quiet))

-- the save that is handed in at a restore is the one that the store keeps, and the world stays as it is
kept_alone :
    (m : Setting) (Takes : State → Type 0) (s : State) (save bytes : List ℕ) (new : World)
    → Answers m Takes s needs.Restore (world None None (record { kept = Some (Some save); failures = 3; refusals = [] })) (Restored bytes) new
    → (Some save ≡ Some bytes) × (new ≡ world None None (record { kept = Some (Some save); failures = 3; refusals = [] }))
kept_alone m Takes s save bytes new (kept, resumes, same) = (kept, same)

-- a play that breaks off has written all that it gave out, but where a write failed
module _ (m : Setting) (Takes wants : State → Type 0) (asked : StatusLines) (old new : Stage) (before now : Option (List ℕ)) where
  read_whole : Breaks m Takes wants asked old new before now errors.Read → Plays m Takes asked old new before now × (awaited m new.state ≡ Some needs.Line)
  read_whole breaks = breaks

  wanted_whole : Breaks m Takes wants asked old new before now errors.OutOfMemory → Plays m Takes asked old new before now × wants new.state
  wanted_whole breaks = breaks

  written_in_part : PlaysInPart m Takes asked old new before now → Breaks m Takes wants asked old new before now errors.Write
  written_in_part plays = plays

-- where a write failed, all that came before the turn that was being written is written, and play stands where that turn ended
module _ (m : Setting) (Takes : State → Type 0) (asked : StatusLines) (old new : Stage) (before now : Option (List ℕ)) where
  written_before : (part : PlaysInPart m Takes asked old new before now) → Plays m Takes asked old part.at before part.between
  written_before part = part.plays

  world_of_turn : (part : PlaysInPart m Takes asked old new before now) → new.world ≡ part.at.world
  world_of_turn part = part.same_world

-- of 5,000 steps such a turn makes 1,024 at most, and it may make so many
module _ (m : Setting) (asked : StatusLines) (s t : State) (given : List Item) (a b : Option (List ℕ)) where
  few_in_turn : (left : ℕ) → WritesInPart m asked 5000 left s t a b → 3976 ≤ left
  few_in_turn left part = omega (arith, part.few, part.all)

  whole_turn : Goes m 1024 s t given → AppendsBeginning a b (render asked given) → WritesInPart m asked 5000 3976 s t a b
  whole_turn goes written = record { steps = 1024; few = omega arith; given = given; all = omega arith; goes = goes; written = written }

-- ---- stages

-- never more steps are made than the budget has
module _ (m : Setting) (Takes : State → Type 0) (asked : StatusLines) (s t : State) (w : World) (a b : Option (List ℕ)) where
  not_more : Writes m asked 5 6 s t a b → ⊥
  not_more writes = omega (arith, writes.all)

  -- and where none is left over, none was made
  none_at_a_need : (meets : Meets m Takes (Given (events.Random 7)) (stage 5 s w) (stage 5 t w) []) → meets.steps ≡ 0
  none_at_a_need meets = omega (arith, meets.all)

  not_more_at_a_need : Meets m Takes (Given (events.Random 7)) (stage 5 s w) (stage 6 t w) [] → ⊥
  not_more_at_a_need meets = omega (arith, meets.all)

-- Memory may be refused where a save is told of, and on a checked machine where one is wanted too; where a line is awaited, only where the
-- step itself wants some
module _ (m : Setting) (s : State) where
  may_be_refused : (awaited m s ≡ Some needs.Saved → GivesOrSaves m s × WantsOrSaves m s) × (awaited m s ≡ Some needs.Restore → WantsOrSaves m s)
  may_be_refused = ((λ saved. (inr saved, inr (inl saved))), λ restores. inr (inr restores))

  for_the_step : awaited m s ≡ Some needs.Line → (GivesOrSaves m s → GivesOut m s) × (WantsOrSaves m s → WantsMemory m s)
  for_the_step line = (gives, wants)
    where
      gives : GivesOrSaves m s → GivesOut m s
      gives (inl g) = g
      gives (inr e) = absurd cc

      wants : WantsOrSaves m s → WantsMemory m s
      wants (inl w) = w
      wants (inr (inl e)) = absurd cc
      wants (inr (inr e)) = absurd cc
