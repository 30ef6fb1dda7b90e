-- What tests one after the other refuse.
use Rattle.std.proofs.Common.{◌≡◌, Bool, true, false, cond, Option, Some, None, refl, ap, ◌∙◌}
use Rattle.sled_nodes.proofs.Basics.{some_none}
use Rattle.sled_model.specs.Refusal.{MustRefuse, first_of}

-- where neither refuses
pub first_none : (a b : Option MustRefuse) → first_of a b ≡ None → (a ≡ None) × (b ≡ None)
first_none None b e = (refl, e)
first_none (Some m) b e = some_none e

-- .. and so do both together
pub none_first : (a b : Option MustRefuse) → a ≡ None → b ≡ None → first_of a b ≡ None
none_first a b p q = ap (λ z. first_of z b) p ∙ q

-- one test
pub passed : (b : Bool) (m : MustRefuse) → cond b None (Some m) ≡ None → b ≡ true
passed true m e = refl
passed false m e = some_none e
