-- The tree of objects: three functions from the number of an object to that of its parent, of the next object under the same
-- parent, and of the first object under it. They answer 0 where there is none (Z 12.3).
use Rattle.std.specs.Prelude.{ℕ, ◌≤◌, List}
use Rattle.zobj.specs.declared.tree.Link.{Link}
use Rattle.zobj.specs.declared.tree.Link.TheVariants.{Parent, Sibling, Child}
use Rattle.zobj.specs.Entries.{entry_byte, with_entry_byte}

-- the byte of an entry that has the number (Z 12.3.1)
abbrev pub link_byte : Link → ℕ
link_byte Parent = 4
link_byte Sibling = 5
link_byte Child = 6

abbrev pub linked : Link → List ℕ → ℕ → ℕ
linked link memory object = entry_byte memory object (link_byte link)

abbrev pub parent : List ℕ → ℕ → ℕ
parent memory object = linked Parent memory object

abbrev pub sibling : List ℕ → ℕ → ℕ
sibling memory object = linked Sibling memory object

abbrev pub child : List ℕ → ℕ → ℕ
child memory object = linked Child memory object

-- the memory with a link of an object leading to another
abbrev pub with_link : Link → ℕ → ℕ → List ℕ → List ℕ
with_link link object to memory = with_entry_byte object (link_byte link) to memory

-- every link of so many objects leads to one of them or to none (own)
pub record IsTree (memory : List ℕ) (objects : ℕ) : Type 0 where
  pub small : (link : Link) (object : ℕ) → 1 ≤ object → object ≤ objects → linked link memory object ≤ objects
