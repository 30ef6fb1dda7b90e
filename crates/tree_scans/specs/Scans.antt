-- Scans in flight: what waits, what is left to read, and what a step does.
use Rattle.std.specs.Prelude.{◌≡◌, ◌+◌, Bool, true, false, drop, List, [], ◌∷◌, Option, Some, None, if◌then◌else◌}
use Rattle.std.specs.declared.ops.Bound.TheVariants.{Included, Excluded}
use Rattle.sled_nodes.specs.Order.{Key}
use Rattle.sled_nodes.specs.Node.{pairs}
use Rattle.sled_nodes.specs.Ranges.{Range, pairs_in}
use Rattle.sled_nodes.specs.declared.error.Error.TheVariants.{NoMemory}
use Rattle.sled_nodes.specs.declared.node.Node.{Node}
use Rattle.sled_store.specs.Store.{Store}
use Rattle.sled_model.specs.State.{range_of}
use Rattle.sled_model.specs.Scan.{is_read}
use Rattle.sled_model.specs.declared.reply.Reply.TheVariants.{End}
use Rattle.tree_laws.specs.declared.flight.Giving.{Giving}
use Rattle.tree_laws.specs.declared.flight.Stage.{Stage}
use Rattle.tree_laws.specs.declared.flight.Stage.TheVariants as stage
use Rattle.sled_tree.specs.Stages.{IsOnItsWay}
use Rattle.sled_tree.specs.declared.flight.Aim.{Aim}
use Rattle.sled_tree.specs.declared.flight.Aim.TheVariants.{Own, At}
use Rattle.sled_tree.specs.declared.flight.InFlight.{InFlight}
use Rattle.sled_tree.specs.declared.flight.Went.{Went}
use Rattle.sled_tree.specs.declared.flight.Went.TheVariants.{Yielded, Decided, Refused}

-- the range from where a scan goes on
abbrev pub range_from : Aim → Range → Range
range_from Own r = r
range_from (At bound) r = if r.back then (record r { hi = bound }) else (record r { lo = bound })

-- the range that is bounded by a key; none if the key is no bound
abbrev pub range_by : Key → (Key → Range) → Option Range
range_by [] bounded = None
range_by (b ∷ bs) bounded = Some (bounded (b ∷ bs))

-- what is behind a leaf in the direction of the range: from where it ends or, backwards, below where it begins
abbrev pub range_behind : Node → Range → Option Range
range_behind n r = if r.back then (range_by n.lo (λ k. record r { hi = Excluded k })) else (range_by n.hi (λ k. record r { lo = Included k }))

-- what is left to read: behind its leaf, if a scan has one
abbrev pub rest_at : Stage → Range → Option Range
rest_at (stage.Give a) r = range_behind a.leaf.node r
rest_at other r = Some r

abbrev pub rest_in : Stage → Aim → Option Range → Option Range
rest_in a aim None = None
rest_in a aim (Some r) = rest_at a (range_from aim r)

abbrev pub rest_of : InFlight → Option Range
rest_of f = rest_in f.stage f.aim (range_of f.job.call)

-- the pairs that wait: those that its leaf has, but for what was given
abbrev pub waiting_at : Stage → Range → List (Key × Key)
waiting_at (stage.Give a) r = drop a.given (pairs_in r (pairs a.leaf.node.content))
waiting_at other r = []

abbrev pub waiting_in : Stage → Aim → Option Range → List (Key × Key)
waiting_in a aim None = []
waiting_in a aim (Some r) = waiting_at a (range_from aim r)

abbrev pub waiting_of : InFlight → List (Key × Key)
waiting_of f = waiting_in f.stage f.aim (range_of f.job.call)

-- where a scan goes on behind its leaf: at the key where that ends or, backwards, just below the one where it begins
abbrev pub aim_behind : Node → Bool → Aim
aim_behind n true = At (Excluded n.lo)
aim_behind n false = At (Included n.hi)

abbrev pub behind : InFlight → Giving → Range → InFlight
behind f a r = record f { aim = aim_behind a.leaf.node r.back; stage = stage.Root }

-- a scan ends once it has its leaf, or before it reads the root
abbrev pub CanEnd : Stage → Type 0
CanEnd stage.Root = Unit {0}
CanEnd (stage.Give a) = Unit {0}
CanEnd other = ⊥

-- One step of a scan that has turns left, where `steps` is what every call does on its way
pub data ScanStep (steps : Store → InFlight → Went → Store → InFlight → Type 0) (old : Store) (f : InFlight) : Went → Store → InFlight → Type 0 where
  -- at its leaf it gives the first pair that waits, and its turns begin again
  Gives : (a : Giving) (key value : Key) (more : List (Key × Key)) → f.stage ≡ stage.Give a → waiting_of f ≡ (key, value) ∷ more
      → ScanStep steps old f (Yielded key value) old (record f { stage = stage.Give (record a { given = a.given + 1 }); turns = 0 })
  -- if none waits and nothing is left to read it ends: at its leaf, or before it reads the root
  Ends : (g : InFlight) → CanEnd f.stage → waiting_of f ≡ [] → is_read (rest_of f) ≡ true → ScanStep steps old f (Decided End) old g
  -- if none waits and something is left to read, it does what a scan does that begins at the root, from behind its leaf
  GoesOn : (a : Giving) (r : Range) (went : Went) (new : Store) (g : InFlight) → f.stage ≡ stage.Give a → range_of f.job.call ≡ Some r
      → waiting_of f ≡ [] → is_read (rest_of f) ≡ false → steps old (behind f a r) went new g → ScanStep steps old f went new g
  -- on its way to a leaf it does what every call does; bounds that give nothing end it before it reads the root
  Walks : (went : Went) (new : Store) (g : InFlight) → IsOnItsWay f.stage → (f.stage ≡ stage.Root → is_read (rest_of f) ≡ false)
      → steps old f went new g → ScanStep steps old f went new g
  -- there is no memory for the pair, or for the place where it goes on
  Lacks : (a : Giving) (g : InFlight) → f.stage ≡ stage.Give a → ScanStep steps old f (Refused NoMemory) old g
