-- What reading a variable depends on.
use Rattle.std.proofs.Common.{◌≡◌, ℕ, ◌≤◌, Bool, true, false, nat_le, length, refl}
use Rattle.std.specs.Prelude.{◌==◌, ◌||◌}
use Rattle.std.proofs.lemmas.Bool.{le-leb}
use Rattle.zstory.specs.LoadedStory.{LoadedStory}
use Rattle.zstate.specs.State.{Frame, State, popped, read_named, exists}

-- a local or a global doesn't depend on the stack
pub read_named-popped : (story : LoadedStory) (v n : ℕ) (s : State) → read_named story v (popped n s) ≡ read_named story v s
unfolding read_named
read_named-popped story v n s = refl

pub ruleset reading = (read_named-popped)

any_or : (a b : Bool) → (a || (b || true)) ≡ true
any_or true b = refl
any_or false true = refl
any_or false false = refl

some_or : (a c : Bool) → (a || (true || c)) ≡ true
some_or true c = refl
some_or false c = refl

-- a global is there, and a local below the count
pub exists_global : (v : ℕ) (f : Frame) → 16 ≤ v → exists v f ≡ true
exists_global v f h = let e : nat_le 16 v ≡ true = le-leb 16 v h in rw e (any_or (v == 0) (nat_le v (length f.locals)))

pub exists_local : (v : ℕ) (f : Frame) → v ≤ length f.locals → exists v f ≡ true
exists_local v f h = let e : nat_le v (length f.locals) ≡ true = le-leb v (length f.locals) h in rw e (some_or (v == 0) (nat_le 16 v))

pub exists_stack : (v : ℕ) (f : Frame) → v ≡ 0 → exists v f ≡ true
exists_stack v f h = rw h refl

pub ruleset existing = (exists_global, exists_local, exists_stack)
