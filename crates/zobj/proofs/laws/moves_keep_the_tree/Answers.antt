use Rattle.zobj.proofs.Keeping.{unlinked_only, inserted_only, unlinked_stays, inserted_tree}
use Rattle.zobj.proofs.laws.moves_keep_the_tree.Goals as goal

pub returns-clause-unlinked : goal.returns-clause-unlinked
returns-clause-unlinked c = λ memory objects object has least most. unlinked_only objects memory has object least most

pub returns-clause-inserted : goal.returns-clause-inserted
returns-clause-inserted c = λ memory objects object under has least most first last. inserted_only objects memory has object least most under first last

pub returns-clause-without : goal.returns-clause-without
returns-clause-without c = λ memory objects object has tree least most. unlinked_stays objects memory has object least most tree

pub returns-clause-under : goal.returns-clause-under
returns-clause-under c = λ memory objects object under has tree least most first last. inserted_tree objects memory has object least most under first last tree
