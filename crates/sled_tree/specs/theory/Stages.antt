-- Of Stages, for proofs. What a call in flight knows of the pages, by its stage.
use Rattle.tree_laws.specs.declared.flight.Stage.{Stage}
use Rattle.tree_laws.specs.declared.flight.Stage.TheVariants as stage

-- the stage is none of a walk
abbrev pub IsOffWalk : Stage → Type 0
IsOffWalk stage.Root = ⊥
IsOffWalk (stage.Walk a) = ⊥
IsOffWalk other = Unit {0}

-- .. and the call is not to link its change, and no scan that has its leaf
abbrev pub IsElsewhere : Stage → Type 0
IsElsewhere stage.Root = ⊥
IsElsewhere (stage.Walk a) = ⊥
IsElsewhere (stage.Act a) = ⊥
IsElsewhere (stage.Give a) = ⊥
IsElsewhere other = Unit {0}
