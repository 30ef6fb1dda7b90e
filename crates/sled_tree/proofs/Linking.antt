-- A call that is to link its change, in two halves.
use Rattle.std.proofs.Common.{◌≡◌, ℕ, Bool, true, false, Option, Some, None, Result, Ok, Err, MatchOption, IfOk, sym, refl, ap, ◌∙◌, subst, inl, inr}
use Rattle.sled_nodes.proofs.Basics.{none_some, some_is}
use Rattle.sled_nodes.specs.Node.{after_link, value_at}
use Rattle.sled_nodes.specs.Order.{Key}
use Rattle.sled_store.specs.Store.{Store, now, Changes, IsRefused}
use Rattle.sled_nodes.specs.declared.error.Error.{Error}
use Rattle.sled_nodes.specs.declared.error.Error.TheVariants.{NoMemory}
use Rattle.sled_nodes.specs.declared.link.Link.{Link}
use Rattle.sled_nodes.specs.declared.node.Data.{Data}
use Rattle.sled_store.specs.declared.page.View.{View}
use Rattle.sled_model.specs.Maps.{Merge as Operator}
use Rattle.sled_model.specs.Answer.{decision_of, event_of, key_of}
use Rattle.sled_model.specs.declared.call.Call.{Call}
use Rattle.sled_model.specs.declared.decision.Decision.{Decision}
use Rattle.sled_model.specs.declared.decision.Effect.{Effect}
use Rattle.sled_model.specs.declared.decision.Effect.TheVariants as effect
use Rattle.sled_model.specs.declared.reply.Reply.{Reply}
use Rattle.tree_laws.specs.declared.flight.Stage.{Stage}
use Rattle.tree_laws.specs.declared.flight.Stage.TheVariants as stage
use Rattle.sled_tree.specs.Change.{link_of, decision_at}
use Rattle.sled_tree.specs.Course.{course_of}
use Rattle.sled_tree.specs.Follows.{Follows, TakesWay}
use Rattle.sled_tree.specs.theory.Change.{IsChangeBy, IsChangeOf, IsOfPair, event_of_link}
use Rattle.sled_tree.specs.theory.Linking.{IsAtLink, PreparesChange, begun_again, StepsBy, went_with, LinksAtLeaf, replies_with, LinksPrepared}
use Rattle.sled_tree.specs.theory.StageAction.{StageAction, StageActionBy, Only}
use Rattle.sled_tree.specs.declared.act.Change.{Change}
use Rattle.sled_tree.specs.declared.flight.InFlight.{InFlight}
use Rattle.sled_tree.specs.declared.flight.Sequel.TheVariants as sequel
use Rattle.sled_tree.specs.declared.flight.Went.{Went}
use Rattle.sled_tree.specs.declared.flight.Went.TheVariants as went
use Rattle.sled_tree.proofs.Acting.{act_moves, links_follows, late_follows}
use Rattle.sled_tree.proofs.Facts.{once_acts, refused, stale, unable, restarts, goes_on, by_these}
use Rattle.sled_tree.proofs.Passing.{act_changes, act_current, passes_further}

no_answer : (e : Error) (d : Result Bool Error) → d ≡ Err e → d ≡ Ok false → ⊥
no_answer e d is late = cc

not_late : (d : Result Bool Error) → d ≡ Ok true → d ≡ Ok false → ⊥
not_late d is late = cc

-- the leaf that a call has read
abbrev view_at : Stage → View → View
view_at (stage.Act view) other = view
view_at s other = other

-- the change by the decision at the value that the leaf has
pub prepares : (operator : Option Operator) (f : InFlight) (view : View) (value : Option Key) (decision : Decision) (r : Result (Option Change) Error) → f.stage ≡ stage.Act view → value ≡ value_at view.node.content (key_of f.job.call)
    → decision ≡ decision_of operator f.job.call value → IfOk r (IsChangeBy decision (key_of f.job.call)) → IfOk r (PreparesChange operator f)
prepares operator f view value decision (Err e) at v d is = tt
prepares operator f view value decision (Ok change) at v d is = record {
  is = λ other there. subst (λ (w : View). IsChangeOf operator f.job.call w.node.content change) (ap (λ s. view_at s view) (sym at ∙ there))
      (subst (λ (by : Decision). IsChangeBy by (key_of f.job.call) change) (d ∙ ap (decision_of operator f.job.call) v) is);
}

-- what came of the link
module _ (link : Link) (a b : Store) (f : InFlight) (view : View) (here : f.stage ≡ stage.Act view) where
  abbrev with_reply : Reply → Change
  with_reply reply = record { link = link; reply = reply }

  pub link_refused : (e : Error) (g : InFlight) → IsRefused e a b → LinksAtLeaf link a f (Err e) b g
  link_refused e g r = record {
    is = λ operator reply p. record {
      advances = record { is = subst (λ z. StageActionBy (Only operator) (course_of f) a z (sequel.Refused e) b) (sym here) (by_these (course_of f) a b (stage.Act view) (sequel.Refused e) moves) };
      passes = record { is = tt };
      follows = record { is = subst (λ z. Follows (course_of f) a z (sequel.Refused e) b) (sym here) (record { is = inr (e, refl, r) }) };
    };
    touches = moves.touches;
    again = λ late. absurd (no_answer e (Err e) refl late);
  }
    where
      moves : StageAction (course_of f) a (stage.Act view) (sequel.Refused e) b
      moves = refused (course_of f) a b (stage.Act view) e r

  pub link_late : (present : Option ℕ) → Changes (after_link link) view.pid view.version a b (Err present) → LinksAtLeaf link a f (Ok false) b (begun_again f)
  link_late present c = record {
    is = λ operator reply p. record {
      advances = goes_on a b f (stage.Act view) stage.Root (sequel.Go stage.Root) (sym here) refl (by_these (course_of f) a b (stage.Act view) (sequel.Go stage.Root) moves);
      passes = passes_further (now a) (now b) f (stage.Act view) stage.Root (sequel.Go stage.Root) (sym here) refl (act_current (course_of f) a b view (sequel.Go stage.Root) c);
      follows = record { is = subst (λ z. Follows (course_of f) a z (sequel.Go stage.Root) b) (sym here) (record { is = inl (late_follows operator (course_of f) a b view (with_reply reply) (p.is view here) present c) }) };
    };
    touches = moves.touches;
    again = λ late. refl;
  }
    where
      moves : StageAction (course_of f) a (stage.Act view) (sequel.Go stage.Root) b
      moves = stale (course_of f) a b (stage.Act view) (λ q i. i) c

  pub link_done : (given : ℕ) (g : InFlight) → Changes (after_link link) view.pid view.version a b (Ok given) → LinksAtLeaf link a f (Ok true) b g
  link_done given g c = record {
    is = λ operator reply p. record {
      advances = record { is = subst (λ z. StageActionBy (Only operator) (course_of f) a z (sequel.Decided reply) b) (sym here) (act_moves operator (course_of f) a b view (with_reply reply) given (p.is view here) c) };
      passes = record { is = tt };
      follows = record { is = subst (λ z. Follows (course_of f) a z (sequel.Decided reply) b) (sym here) (record { is = inl (links_follows operator (course_of f) a b view (with_reply reply) (p.is view here) given c) }) };
    };
    touches = inr (once_acts c.is.2);
    again = λ late. absurd (not_late (Ok true) refl late);
  }

-- .. of a change that was prepared
pub prepared_so : (change : Change) (a b : Store) (f g : InFlight) (done : Result Bool Error) → LinksAtLeaf change.link a f done b g → (went : Went) → went ≡ went_with change.reply done → LinksPrepared change a f went b g
prepared_so change a b f g done links went is = subst (λ w. LinksPrepared change a f w b g) (sym is) (record { is = λ operator p. links.is operator change.reply p; replies = go done })
  where
    go : (d : Result Bool Error) → replies_with change.reply (went_with change.reply d)
    go (Ok true) = refl
    go (Ok false) = tt
    go (Err e) = tt

-- the leaf that was read
pub leaf_of : (a : Stage) → IsAtLink a → (view : View) × (a ≡ stage.Act view)
leaf_of (stage.Act view) here = (view, refl)
leaf_of other here = absurd here

-- a change that was not prepared
module _ (operator : Option Operator) (a : Store) (f : InFlight) (view : View) (here : f.stage ≡ stage.Act view) where
  -- there is no memory
  pub unprepared : (e : Error) (g : InFlight) → e ≡ NoMemory → StepsBy operator a f (went.Refused e) a g
  unprepared e g none = record {
    advances = record { is = subst (λ z. StageActionBy (Only operator) (course_of f) a z (sequel.Refused e) a) (sym here) (by_these (course_of f) a a (stage.Act view) (sequel.Refused e) (unable (course_of f) a (stage.Act view) e none)) };
    passes = record { is = tt };
    follows = record { is = subst (λ z. Follows (course_of f) a z (sequel.Refused e) a) (sym here) (record { is = inr (e, refl, subst (λ z. IsRefused z a a) (sym none) (record { is = refl })) }) };
  }

  -- the call changes nothing
  pub unchanged : IsChangeOf operator f.job.call view.node.content None → StepsBy operator a f went.Moved a (begun_again f)
  unchanged p = record {
    advances = goes_on a a f (stage.Act view) stage.Root (sequel.Go stage.Root) (sym here) refl (by_these (course_of f) a a (stage.Act view) (sequel.Go stage.Root) (restarts (course_of f) a (stage.Act view) (λ q i. i)));
    passes = passes_further (now a) (now a) f (stage.Act view) stage.Root (sequel.Go stage.Root) (sym here) refl (act_changes operator (course_of f) (now a) (now a) view (sequel.Go stage.Root) p);
    follows = record {
      is = subst (λ z. Follows (course_of f) a z (sequel.Go stage.Root) a) (sym here) (record {
        is = inl (record {
          operator = operator;
          is = subst (λ (e : Effect). MatchOption (link_of e (key_of f.job.call)) ((a ≡ a) × (sequel.Go stage.Root ≡ sequel.Go stage.Root)) (λ link. TakesWay (after_link link) view.pid view.version a a (sequel.Go stage.Root) (λ _. sequel.Decided (decision_at operator f.job.call view.node.content).reply) (λ _. sequel.Go stage.Root))) (sym p) (refl, refl);
        });
      });
    };
  }

-- the change of a call is one of a pair, and subscribers learn of it what its effect tells them
module _ (operator : Option Operator) (call : Call) (content : Data) (change : Change) (is : IsChangeOf operator call content (Some change)) where
  pub change_pair : IsOfPair change.link
  change_pair = go (decision_at operator call content).effect is.0
    where
      go : (e : Effect) → link_of e (key_of call) ≡ Some change.link → IsOfPair change.link
      go effect.Nothing l = none_some l
      go (effect.Set v) l = subst IsOfPair (some_is l) tt
      go effect.Remove l = subst IsOfPair (some_is l) tt

  pub change_event : event_of_link change.link ≡ event_of (decision_at operator call content).effect (key_of call)
  change_event = go (decision_at operator call content).effect is.0
    where
      go : (e : Effect) → link_of e (key_of call) ≡ Some change.link → event_of_link change.link ≡ event_of e (key_of call)
      go effect.Nothing l = none_some l
      go (effect.Set v) l = ap event_of_link (sym (some_is l))
      go effect.Remove l = ap event_of_link (sym (some_is l))
