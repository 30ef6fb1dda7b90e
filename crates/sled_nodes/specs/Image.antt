-- The pages and roots of an image: lists of numbers with nodes and of names with roots. Of one number or name the last entry counts.
use Rattle.std.specs.Prelude.{ℕ, Bool, true, nat_eq, ◌&&◌, List, Option, Some, None, option_map}
use Rattle.std.specs.List.{find, list_all}
use Rattle.std.specs.Str.{bytes_eq}
use mathlib.Core.List.{reverse}
use Rattle.sled_nodes.specs.Order.{Key}
use Rattle.sled_nodes.specs.declared.node.Node.{Node}
use Rattle.sled_nodes.specs.Node.{pointers}

-- what the last entry has whose key passes
abbrev pub last_of : {K X : Type 0} → (K → Bool) → List (K × X) → Option X
last_of passes es = option_map (λ e. e.1) (find (λ e. passes e.0) (reverse es))

abbrev pub node_in : List (ℕ × Node) → ℕ → Option Node
node_in image p = last_of (λ q. nat_eq q p) image

abbrev pub root_in : List (Key × ℕ) → Key → Option ℕ
root_in roots name = last_of (λ q. bytes_eq q name) roots

abbrev pub all_of : (ℕ → Bool) → Option ℕ → Bool
all_of passes None = true
all_of passes (Some p) = passes p

-- every page that a node names passes
abbrev pub all_named : (ℕ → Bool) → Node → Bool
all_named passes n = all_of passes n.next && (all_of passes n.merging_child && list_all (λ e. passes e.1) (pointers n.content))

-- every number that the pages of an image have or name passes
abbrev pub all_numbers : (ℕ → Bool) → List (ℕ × Node) → Bool
all_numbers passes image = list_all (λ e. passes e.0 && all_named passes e.1) image
