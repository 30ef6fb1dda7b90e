-- Steps of which no reply is kept.
use Rattle.std.proofs.Common.{◌≡◌, Bool, true, false, refl}
use Rattle.sled_nodes.specs.declared.error.Error.{Error}
use Rattle.sled_model.specs.declared.reply.Reply.{Reply}
use Rattle.sled_tree.specs.declared.flight.Went.{Went}
use Rattle.sled_tree.specs.declared.flight.Went.TheVariants as went
use Rattle.sled_model.specs.declared.outcome.Outcome.TheVariants.{NoSuchSlot}
use Rattle.tree_steps.specs.Outcomes.{outcome_of}
use Rattle.tree_steps.specs.theory.Outcomes.{IsUnkept}

-- of a step that decides nothing no reply is kept, and of none if no copies are
pub unkept : (copies : Bool) (w : Went) → ((reply : Reply) → w ≡ went.Decided reply → ⊥) → IsUnkept copies (outcome_of w)
unkept false w off = tt
unkept true went.Moved off = tt
unkept true (went.Yielded key value) off = tt
unkept true (went.Decided reply) off = absurd (off reply refl)
unkept true (went.Refused e) off = tt

pub unkept_moved : (copies : Bool) → IsUnkept copies (outcome_of went.Moved)
unkept_moved copies = unkept copies went.Moved (λ reply e. cc)

pub unkept_refused : (copies : Bool) (e : Error) → IsUnkept copies (outcome_of (went.Refused e))
unkept_refused copies e = unkept copies (went.Refused e) (λ reply d. cc)

pub unkept_missing : (copies : Bool) → IsUnkept copies NoSuchSlot
unkept_missing false = tt
unkept_missing true = tt
