-- An object taken out of the tree, and put under another (Z 15 remove_obj, insert_obj). No cycle of links keeps them from an
-- answer (own).
use Rattle.std.specs.Prelude.{ℕ, zero, suc, ◌≤◌, Bool, ◌||◌, ◌==◌, nat_lt, if◌then◌else◌, List, [], ◌∷◌, Option, Some, None, Result, Ok, Err}
use Rattle.std.specs.List.{find}
use Rattle.zobj.specs.declared.error.ObjectError.{ObjectError}
use Rattle.zobj.specs.declared.error.ObjectError.TheVariants.{AbsentObject}
use Rattle.zobj.specs.declared.tree.Link.TheVariants.{Parent, Sibling, Child}
use Rattle.zobj.specs.declared.moves.Lead.{Lead}
use Rattle.zobj.specs.Tree.{parent, sibling, child, with_link}

-- the numbers from one on, each the sibling of the one before it, up to a 0, and at most so many
unfoldable pub row : ℕ → List ℕ → ℕ → List ℕ
row zero memory number = []
row (suc most) memory zero = []
row (suc most) memory (suc n) = suc n ∷ row most memory (sibling memory (suc n))

-- it ends the search for what leads to an object: it is none of the objects, or has that one as its sibling
abbrev pub ends_search : ℕ → List ℕ → ℕ → ℕ → Bool
ends_search objects memory object number = nat_lt objects number || (sibling memory number == object)

-- the sibling before an object, where the search met one
abbrev pub elder : ℕ → Option ℕ → Result (Option Lead) ObjectError
elder objects None = Ok None
elder objects (Some number) = if nat_lt objects number then Err AbsentObject else Ok (Some (record { link = Sibling; object = number }))

-- The one link that is to lead past an object: its parent's, where the object is its parent's child, or else that of the first
-- in its parent's row of children, of which at most as many as there are objects are looked at, that has it as its sibling. A
-- parent, or a number in the row up to that one, that is none of the objects is an error (own)
abbrev pub lead_of : ℕ → List ℕ → ℕ → Result (Option Lead) ObjectError
lead_of objects memory object =
    if parent memory object == 0 then Ok None
    else (if nat_lt objects (parent memory object) then Err AbsentObject
    else (if child memory (parent memory object) == object then Ok (Some (record { link = Child; object = parent memory object }))
    else elder objects (find (ends_search objects memory object) (row objects memory (child memory (parent memory object))))))

-- it is a link of one of so many objects
pub record IsLead (objects : ℕ) (lead : Lead) : Type 0 where
  pub least : 1 ≤ lead.object
  pub most : lead.object ≤ objects

-- what an answer leads to; an error stays
abbrev pub on_ok : {A B : Type 0} → (A → B) → Result A ObjectError → Result B ObjectError
on_ok f (Ok answer) = Ok (f answer)
on_ok f (Err error) = Err error

-- the link leads past an object: to its sibling
abbrev pub led_past : ℕ → Option Lead → List ℕ → List ℕ
led_past object None memory = memory
led_past object (Some lead) memory = with_link lead.link lead.object (sibling memory object) memory

-- neither a parent nor a sibling; children stay
abbrev pub alone : ℕ → List ℕ → List ℕ
alone object memory = with_link Sibling object 0 (with_link Parent object 0 memory)

-- the memory with an object taken out of the tree
abbrev pub unlinked : ℕ → ℕ → List ℕ → Result (List ℕ) ObjectError
unlinked objects object memory = on_ok (λ lead. alone object (led_past object lead memory)) (lead_of objects memory object)

-- an object becomes the first child of another
abbrev pub first_under : ℕ → ℕ → List ℕ → List ℕ
first_under object under memory = with_link Parent object under (with_link Child under object (with_link Sibling object (child memory under) memory))

-- the memory with an object taken out of its place, and put under another as its first child
abbrev pub inserted : ℕ → ℕ → ℕ → List ℕ → Result (List ℕ) ObjectError
inserted objects object under memory = on_ok (first_under object under) (unlinked objects object memory)
