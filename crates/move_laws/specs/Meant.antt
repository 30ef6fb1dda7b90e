-- What several calls in flight may have to repair, as a number: what is left to repair in their trees, and what more there is to come if a
-- page grew after a call chose to merge it.
use Rattle.std.specs.Prelude.{ℕ, ◌+◌, ◌-◌, ◌*◌, Bool, false, nat_eq, flat_map, sum_by, List, [], ◌∷◌, Option, Some, None, if◌then◌else◌}
use Rattle.sled_nodes.specs.Node.{count}
use Rattle.sled_nodes.specs.Ranges.{Range}
use Rattle.sled_nodes.specs.declared.node.Node.{Node}
use Rattle.sled_store.specs.State.{State, nodes_of}
use Rattle.sled_store.specs.declared.page.Page.{Page}
use Rattle.sled_model.specs.State.{range_of}
use Rattle.sled_model.specs.declared.tree.Tree.{Tree}
use Rattle.tree_laws.specs.Paths.{tree_pages}
use Rattle.tree_laws.specs.declared.flight.Stage.{Stage}
use Rattle.tree_laws.specs.declared.flight.Stage.TheVariants as stage
use Rattle.sled_tree.specs.Course.{Course}
use Rattle.tree_progress.specs.ToDo.{is_in, to_do}

-- a call in flight: what it is to do, and its stage
pub record Flight : Type 0 where
  pub course : Course
  pub stage : Stage

abbrev pub flight : Course → Stage → Flight
flight j a = record { course = j; stage = a }

-- whether a page has this version
abbrev pub has_version : Option Page → ℕ → Bool
has_version None version = false
has_version (Some page) version = nat_eq page.version version

-- the page that a call is to make a merging child, if the index is as the call read it
abbrev pub meant_by : State → Stage → List ℕ
meant_by s (stage.Intend a) = if has_version (s.pages a.parent.pid) a.parent.version then a.child ∷ [] else []
meant_by s other = []

-- .. and those of all calls in the tree of this number
abbrev pub meant : State → ℕ → List Flight → List ℕ
meant s number fs = flat_map (λ f. if nat_eq f.course.tree.number number then meant_by s f.stage else []) fs

-- a sum over pages, in which each of them counts once
abbrev pub sum_once : (ℕ → ℕ) → List ℕ → ℕ
sum_once f [] = 0
sum_once f (p ∷ ps) = (if is_in p ps then 0 else f p) + sum_once f ps

-- a page merges for its 3 entries or fewer; if it has more by then, each of them counts 8
abbrev pub grown : Option Node → ℕ
grown None = 0
grown (Some n) = 8 * (count n.content - 3)

-- what the calls `fs` may have to repair in a tree: thrice what is left to repair, and what the pages grew by that are to merge
abbrev pub repairs_left : State → List Flight → Tree → ℕ
repairs_left s fs t = 3 * to_do s t.name + sum_once (λ p. grown (nodes_of s p)) (meant s t.number fs)

-- .. for each of them in its tree
abbrev pub all_left : State → List Flight → ℕ
all_left s fs = sum_by (λ f. repairs_left s fs f.course.tree) fs

-- What a call in flight may do between two repairs, over so many pages: it reads each of them four times at most. A scan has every leaf
-- ahead of it at most, and on its way to each reads every page twice
abbrev pub between : Option Range → ℕ → ℕ
between None pages = 4 * pages + 9
between (Some range) pages = pages * (2 * pages + 3) + (4 * pages + 9)

-- What they may do in a row without a reply or a pair of any of them: every repair may bring a page more
abbrev pub moves_bound : State → List Flight → ℕ
moves_bound s fs = (all_left s fs + 1) * sum_by (λ f. between (range_of f.course.call) (tree_pages s f.course.tree.name + all_left s fs)) fs
