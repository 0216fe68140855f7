-- What belongs to some code leads on within it, and is listed.
use Rattle.std.proofs.Common.{◌≡◌, ℕ, List, IsTrue, refl, sym, subst, Some, Ok}
use Rattle.std.specs.Prelude.{◌≢◌, ℤ, pos, Option, None, IfSome}
use Rattle.zstory.specs.LoadedStory.{LoadedStory, first_instruction}
use Rattle.zcode.specs.Instruction.{Instruction}
use Rattle.zlist.specs.declared.owner.Owner.{Owner}
use Rattle.zlist.specs.declared.owner.Owner.TheVariants.{Main, Routine}
use Rattle.zlist.specs.declared.owner.Label.{Label}
use Rattle.zlist.specs.declared.owner.Label.TheVariants.{Nobody, One, Several}
use Rattle.zlist.specs.Listed.{Belongs, IsCalled, IsListed, LeadsTo, aside_place, begins, callee, next_place, spelled}
use Rattle.zlist.specs.Labels.{IsSo}

if_some : {X : Type 0} (o : Option X) (P : X → Type 0) → ((x : X) → o ≡ Some x → P x) → IfSome o P
if_some None P h = tt
if_some (Some x) P h = h x refl

by_next : (memory : List ℕ) (p q : ℤ) (i : Instruction) → spelled memory p ≡ Ok i → next_place p i ≡ Some q → LeadsTo memory p q
by_next memory p q i here there set closed h = closed.next p q i h here there

by_aside : (memory : List ℕ) (p q : ℤ) (i : Instruction) → spelled memory p ≡ Ok i → aside_place p i ≡ Some q → LeadsTo memory p q
by_aside memory p q i here there set closed h = closed.aside p q i h here there

belongs_on : (story : LoadedStory) (x : Owner) (p q : ℤ) → LeadsTo story.memory p q → Belongs story x p → Belongs story x q
belongs_on story x p q on it = (it.0, it.1, λ set closed h. on set closed (it.2 set closed h))

pub so_on : (story : LoadedStory) (label : Label) (p q : ℤ) → LeadsTo story.memory p q → IsSo story label p → IsSo story label q
so_on story Nobody p q on it = tt
so_on story (One x) p q on it = belongs_on story x p q on it
so_on story Several p q on it = (it.0, it.1, it.2, belongs_on story it.0 p q on it.3, belongs_on story it.1 p q on it.4)

pub so_next : (story : LoadedStory) (memory : List ℕ) (label : Label) (p : ℤ) (i : Instruction) → memory ≡ story.memory → spelled memory p ≡ Ok i → IsSo story label p → IfSome (next_place p i) (IsSo story label)
so_next story memory label p i same here it = if_some (next_place p i) (IsSo story label) (λ q there. so_on story label p q (by_next story.memory p q i (subst (λ m. spelled m p ≡ Ok i) same here) there) it)

pub so_aside : (story : LoadedStory) (memory : List ℕ) (label : Label) (p : ℤ) (i : Instruction) → memory ≡ story.memory → spelled memory p ≡ Ok i → IsSo story label p → IfSome (aside_place p i) (IsSo story label)
so_aside story memory label p i same here it = if_some (aside_place p i) (IsSo story label) (λ q there. so_on story label p q (by_aside story.memory p q i (subst (λ m. spelled m p ≡ Ok i) same here) there) it)

pub belongs_listed : (story : LoadedStory) (x : Owner) (p : ℤ) → Belongs story x p → IsListed story p
belongs_listed story Main p it set closed callees first = it.2 set closed (subst (λ q. IsTrue (set (pos q))) (sym it.1) first)
belongs_listed story (Routine a) p it set closed callees first =
    let call = it.1.0 in
    it.2 set closed (callees call.0 call.1 a it.0 (call.2 set closed callees first) call.3 call.4 it.1.1)

pub so_listed : (story : LoadedStory) (label : Label) (p : ℤ) → label ≢ Nobody → IsSo story label p → IsListed story p
so_listed story Nobody p n it = absurd (n refl)
so_listed story (One x) p n it = belongs_listed story x p it
so_listed story Several p n it = belongs_listed story it.0 p it.3

so_called : (story : LoadedStory) (memory : List ℕ) (label : Label) (p : ℤ) (i : Instruction) (a : ℕ) → memory ≡ story.memory → label ≢ Nobody → spelled memory p ≡ Ok i → IsSo story label p → callee i.opcode i.operands ≡ Some a → IsCalled story a
so_called story memory label p i a same n here it call = (p, i, so_listed story label p n it, subst (λ m. spelled m p ≡ Ok i) same here, call)

pub so_callee : (story : LoadedStory) (memory : List ℕ) (label : Label) (p : ℤ) (i : Instruction) → memory ≡ story.memory → label ≢ Nobody → spelled memory p ≡ Ok i → IsSo story label p → IfSome (callee i.opcode i.operands) (IsCalled story)
so_callee story memory label p i same n here it = if_some (callee i.opcode i.operands) (IsCalled story) (λ a call. so_called story memory label p i a same n here it call)

pub so_begun : (story : LoadedStory) (memory : List ℕ) (a q : ℕ) → memory ≡ story.memory → IsCalled story a → begins memory a ≡ Ok q → IsSo story (One (Routine a)) (pos q)
so_begun story memory a q same call at = (q, (call, subst (λ m. begins m a ≡ Ok q) same at), λ set closed h. h)

pub so_first : (story : LoadedStory) → IsSo story (One Main) (pos (first_instruction story))
so_first story = (first_instruction story, refl, λ set closed h. h)
