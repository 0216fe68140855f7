-- Values of the definitions, computed.
use Rattle.std.proofs.Common.{◌≡◌, ℕ, false, List, [], ◌∷◌, ◌++◌, replicate, refl, arith, None, Some}
use Rattle.std.specs.Prelude.{pos}
use Rattle.zstory.specs.LoadedStory.{LoadedStory}
use Rattle.zcert.specs.Certificate.{Certificate}
use Rattle.zdomain.specs.declared.interval.Interval.{Interval}
use Rattle.zdomain.specs.Interval.{point, interval_operations}
use Rattle.zcheck.specs.Acceptance.{Acceptance, limit_of}
use Rattle.zfault.specs.declared.event.Event.TheVariants.{Random}
use Rattle.zstate.specs.State.{Setting, State}
use Rattle.zstate.specs.Run.{Given, Restored}
use Rattle.zengine.specs.Frames.{base_of}
use Rattle.zplay.specs.Accepted.{claims}
use Rattle.zplay.specs.Calls.{AllDid, Call, Gave, IsUnused, Ran, Took, handed_in, steps_of}
use Rattle.zplay.specs.Session.{setting_of, words_kept}

memory : List ℕ
memory = replicate 7 0 ++ 64 ∷ replicate 56 0 ++ 0xBA ∷ []

-- `quit` at 64, where the story begins
story : LoadedStory
story = record { memory = memory; objects = 0 }

-- a routine that gives 3 or 4
either : Interval
either = record { lo = pos 3; hi = pos 4; ordered = omega arith }

certificate : Certificate Interval
certificate = record {
  identity = record { release = 0; serial = replicate 6 0; checksum = 0; length = 65 };
  limit = None;
  marking = false;
  stating = false;
  ranges = [];
  globals = replicate 240 (point 3);
  routines = record { address = 60; locals = 0; result = either } ∷ [];
  instructions = record { address = 64; routine = 0; is_marked = false; locals = []; slots = [] } ∷ [];
  facts = [];
}

a : Acceptance
a = record { story = story; certificate = certificate; listing = record { records = []; routines = [] } }

-- only what is listed is played, with 1,024 frames where the certificate names no limit, and with as many as it names, for which there are so many
-- words
games : ((setting_of a).limit ≡ 1024) × ((setting_of a).scope.instructions 64 ≡ false) × ((setting_of a).story ≡ story) × (limit_of (record a { certificate = record certificate { limit = Some 4096 } }) ≡ 4096) × (words_kept 0 ≡ 131111) × (words_kept 1024 ≡ 217127) × (words_kept 4096 ≡ 475175)
unfolding a certificate
games = (refl, refl, refl, refl, refl, refl, refl)

-- what each routine gives, and what isn't one
given : ((claims interval_operations a).result 1 ≡ either) × ((claims interval_operations a).result 2 ≡ interval_operations.any) × ((claims interval_operations a).result 0 ≡ interval_operations.any)
unfolding a certificate
given = (refl, refl, refl)

-- the words of a first frame with two on its stack and of one above it with a local, and what a save with both wants
lying : (base_of (record { return_place = 0; result = 0; supplied = 0; locals = []; stack = 1 ∷ 2 ∷ [] } ∷ []) ≡ 12) × (base_of (record { return_place = 64; result = 0; supplied = 0; locals = 1 ∷ []; stack = [] } ∷ record { return_place = 0; result = 0; supplied = 0; locals = []; stack = 1 ∷ 2 ∷ [] } ∷ []) ≡ 18)
lying = (refl, refl)

-- two calls of `run` with an event behind the first, and a save behind the second
calls : List Call
calls = Ran 3 ∷ Gave (Random 7) ∷ Ran 4 ∷ Took (1 ∷ []) ∷ []

in_one_list : (handed_in calls ≡ Given (Random 7) ∷ Restored (1 ∷ []) ∷ []) × (steps_of calls ≡ 7)
unfolding calls
in_one_list = (refl, refl)

-- with no call, as with one of `run` that made no step, nothing has changed, and nothing is left to be used
nothing_did : (s : State) (m : Setting) → AllDid interval_operations a [] s s [] × AllDid interval_operations a (Ran 0 ∷ []) s s [] × IsUnused interval_operations a m [] s
nothing_did s m = ((refl, refl), (s, [], [], (refl, refl), (refl, refl), refl), tt)
