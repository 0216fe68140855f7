-- Sets of words, by what a domain offers. A word is a natural number below 65,536 (Z 2.1).
use Rattle.std.specs.Prelude.{◌≡◌, ℕ, ◌<◌, ◌≤◌, ◌≤ℤ◌, Bool, true, List, Option, Some, MatchOption, IfSome, IsTrue}
use Rattle.zword.specs.declared.unary.UnaryOp.{UnaryOp}
use Rattle.zword.specs.declared.binary.BinaryOp.{BinaryOp}
use Rattle.zword.specs.declared.question.Question.{Question}
use Rattle.zword.specs.Unary.{transform}
use Rattle.zword.specs.Binary.{apply, is_defined, signed}
use Rattle.zword.specs.Question.{holds}
use Rattle.zdomain.specs.Few.{turned, is_among, Gathering}

-- which words a set of the domain has, and what its operations answer
pub record SetOperations (V : Type 0) : Type 1 where
  pub has : V → ℕ → Type 0
  pub single : ℕ → V
  pub any : V
  -- the words from one to another, by their signed readings
  pub between : ℕ → ℕ → V
  -- words that none of the set is below, and none above, by their signed readings
  pub lowest : V → ℕ
  pub highest : V → ℕ
  -- the word, where the set has but one
  pub known : V → Option ℕ
  -- all words of the set, where it tells them one by one; and a set of words that were gathered
  pub few : V → Option (List ℕ)
  pub packed : Gathering → V
  -- the words of either set, and of both
  pub join : V → V → V
  pub meet : V → V → Option V
  -- what an operation makes of any words of the sets
  pub unary : UnaryOp → V → V
  pub binary : BinaryOp → V → V → V
  -- what is left of two sets where a question on a word of each has this answer: nothing where it never has
  pub narrow : Question → Bool → V → V → Option (V × V)

-- the number is a word, and the set has it
pub record In {V : Type 0} (o : SetOperations V) (a : V) (x : ℕ) : Type 0 where
  pub word : x < 65536
  pub member : o.has a x

-- each word of the first set is in the second
abbrev pub Within : {V : Type 0} → SetOperations V → V → V → Type 0
Within o a b = (x : ℕ) → In o a x → In o b x

-- the word is one of those that were gathered
pub record IsGathered (g : Gathering) (x : ℕ) : Type 0 where
  pub least : g.least ≤ turned x
  pub greatest : turned x ≤ g.greatest
  pub bound : g.greatest < 65536
  pub few : IfSome g.few (λ words. IsTrue (is_among x words))

-- each operation answers a set that contains what it has to
pub record AreSound {V : Type 0} (o : SetOperations V) : Type 0 where
  pub single : (x : ℕ) → x < 65536 → In o (o.single x) x
  pub any : (x : ℕ) → x < 65536 → In o o.any x
  pub between : (lo hi x : ℕ) → signed lo ≤ℤ signed x → signed x ≤ℤ signed hi → x < 65536 → In o (o.between lo hi) x
  pub lowest : (a : V) (x : ℕ) → In o a x → signed (o.lowest a) ≤ℤ signed x
  pub highest : (a : V) (x : ℕ) → In o a x → signed x ≤ℤ signed (o.highest a)
  pub known : (a : V) (n x : ℕ) → o.known a ≡ Some n → In o a x → x ≡ n
  pub known_single : (x : ℕ) → x < 65536 → o.known (o.single x) ≡ Some x
  pub few : (a : V) (words : List ℕ) (x : ℕ) → o.few a ≡ Some words → In o a x → IsTrue (is_among x words)
  pub packed : (g : Gathering) (x : ℕ) → IsGathered g x → x < 65536 → In o (o.packed g) x
  pub join_left : (a b : V) (x : ℕ) → In o a x → In o (o.join a b) x
  pub join_right : (a b : V) (x : ℕ) → In o b x → In o (o.join a b) x
  pub meet : (a b : V) (x : ℕ) → In o a x → In o b x → MatchOption (o.meet a b) ⊥ (λ c. In o c x)
  pub unary : (op : UnaryOp) (a : V) (x : ℕ) → In o a x → In o (o.unary op a) (transform op x)
  pub binary : (op : BinaryOp) (a b : V) (x y : ℕ) → In o a x → In o b y → is_defined op y ≡ true → In o (o.binary op a b) (apply op x y)
  pub narrow : (q : Question) (c : Bool) (a b : V) (x y : ℕ) → In o a x → In o b y → holds q x y ≡ c → MatchOption (o.narrow q c a b) ⊥ (λ p. In o p.0 x × In o p.1 y)
