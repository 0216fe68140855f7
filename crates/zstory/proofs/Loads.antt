-- A file holds one story.
use Rattle.std.proofs.Common.{◌≡◌, List, ℕ, subst, sym, ap, ◌∙◌}
use Rattle.zstory.specs.Objects.{IsObjectCount}
use Rattle.zstory.specs.LoadedStory.{LoadedStory}
use Rattle.zstory.specs.Loading.{IsLoaded}
use Rattle.zstory.proofs.Counting.{one_count}

pub one_story : (file : List ℕ) (story other : LoadedStory) → IsLoaded file story → IsLoaded file other → other ≡ story
one_story file story other is same =
    let memory : other.memory ≡ story.memory = same.memory ∙ sym is.memory in
    let P : List ℕ → Type 0 = λ memory. IsObjectCount memory other.objects in
    let objects : other.objects ≡ story.objects = one_count story.memory other.objects story.objects (subst P memory same.objects) is.objects in
    let made : List ℕ → ℕ → LoadedStory = λ memory objects. record { memory = memory; objects = objects } in
    ap (λ (memory : List ℕ). made memory other.objects) memory ∙ ap (made story.memory) objects
