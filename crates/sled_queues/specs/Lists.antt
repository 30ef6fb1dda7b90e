-- The subscribers by the tree and the prefix that they watch, in lists.
use Rattle.std.specs.Prelude.{◌≡◌, ℕ, nat_eq, ◌&&◌, Bool, false, List, [], ◌∷◌, length, Option, Some, None}
use Rattle.std.specs.List.{list_any}
use Rattle.std.specs.Str.{bytes_eq}
use Rattle.std.specs.Ordering.{nat_cmp}
use Rattle.std.specs.Cmp.Lexicographic.{slice_cmp}
use Rattle.std.specs.BTreeMap.{BTreeMap, get, get_by}
use Rattle.std.specs.Global.{Vec}
use Rattle.sled_nodes.specs.Order.{Key}
use Rattle.sled_queues.specs.Values.{WaitingValue, Waitings}

-- the subscribers of each prefix of one length, and by its length, and by the tree
abbrev pub Prefixes : Type 0
Prefixes = BTreeMap (Vec ℕ) (Vec ℕ)

abbrev pub Lengths : Type 0
Lengths = BTreeMap ℕ Prefixes

abbrev pub items_of : Option (Vec ℕ) → List ℕ
items_of None = []
items_of (Some list) = list.items

abbrev pub at_prefix : Prefixes → Key → List ℕ
at_prefix prefixes prefix = items_of (get_by (λ (k : Vec ℕ). slice_cmp nat_cmp prefix k.items) prefixes)

abbrev pub in_prefixes : Option Prefixes → Key → List ℕ
in_prefixes None prefix = []
in_prefixes (Some prefixes) prefix = at_prefix prefixes prefix

abbrev pub at_length : Lengths → Key → List ℕ
at_length lengths prefix = in_prefixes (get nat_cmp lengths (length prefix)) prefix

abbrev pub in_lengths : Option Lengths → Key → List ℕ
in_lengths None prefix = []
in_lengths (Some lengths) prefix = at_length lengths prefix

-- the subscribers of a tree and a prefix
abbrev pub lists_of : BTreeMap ℕ Lengths → ℕ → Key → List ℕ
lists_of trees tree prefix = in_lengths (get nat_cmp trees tree) prefix

-- the number is in the list
abbrev pub is_in : ℕ → List ℕ → Bool
is_in n ns = list_any (nat_eq n) ns

-- each number is in the list once
abbrev pub Once : List ℕ → Type 0
Once [] = Unit {0}
Once (n ∷ ns) = (is_in n ns ≡ false) × Once ns

-- the queue watches just this prefix of this tree
abbrev pub watches : ℕ → Key → Option WaitingValue → Bool
watches tree prefix None = false
watches tree prefix (Some w) = nat_eq w.tree tree && bytes_eq w.prefix prefix

-- each subscriber with a queue is once in the list of its tree and prefix, and nowhere else, and no other number is in any
pub record AreListed (queues : Waitings) (lists : ℕ → Key → List ℕ) : Type 0 where
  pub listed : (n tree : ℕ) (prefix : Key) → is_in n (lists tree prefix) ≡ watches tree prefix (queues n)
  pub once : (tree : ℕ) (prefix : Key) → Once (lists tree prefix)

-- the queues in which something is prepared are in the list
pub record ArePending (queues : Waitings) (pending : List ℕ) : Type 0 where
  pub rest : (n : ℕ) (w : WaitingValue) → queues n ≡ Some w → is_in n pending ≡ false → w.coming ≡ []
