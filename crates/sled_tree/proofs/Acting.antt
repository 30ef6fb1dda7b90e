-- The change of a leaf.
use Rattle.std.proofs.Common.{◌≡◌, ◌≢◌, ℕ, false, List, [], Option, Some, None, MatchOption, Ok, Err, sym, refl, ap, ◌∙◌, subst, inl, inr}
use Rattle.std.specs.FinMap.Entries.{find}
use Rattle.std.specs.declared.ops.Bound.TheVariants.{Included}
use Rattle.sled_nodes.proofs.Basics.{none_some, some_is}
use Rattle.sled_nodes.specs.Order.{Key, key_cmp}
use Rattle.sled_nodes.specs.Node.{after_link}
use Rattle.sled_store.specs.Store.{Store, Changes}
use Rattle.sled_nodes.specs.declared.node.Node.{Node}
use Rattle.sled_nodes.specs.declared.link.Link.{Link}
use Rattle.sled_store.specs.declared.page.View.{View}
use Rattle.sled_model.specs.Maps.{Merge as Operator}
use Rattle.sled_model.specs.Answer.{decision_of, map_after, event_of, key_of}
use Rattle.sled_model.specs.declared.decision.Decision.{Decision}
use Rattle.sled_model.specs.declared.decision.Effect.{Effect}
use Rattle.sled_model.specs.declared.decision.Effect.TheVariants as effect
use Rattle.tree_laws.specs.Forest.{Tree, Forest, contents}
use Rattle.tree_laws.specs.Snapshot.{Snapshot, snapshot_of, nodes_at, HasForest, HasRoomForOne, IsActing}
use Rattle.tree_laws.specs.theory.Snapshot.{KeepsForest}
use Rattle.tree_laws.specs.theory.Laws.{IsNodeNow, Written, after_replacement}
use Rattle.tree_laws.proofs.Known.{answers, set_written, del_written, set_few, store_replaced}
use Rattle.sled_tree.specs.declared.act.Change.{Change}
use Rattle.sled_tree.specs.Course.{Course}
use Rattle.tree_laws.specs.declared.flight.Stage.TheVariants.{Act, Root}
use Rattle.sled_tree.specs.declared.flight.Sequel.TheVariants as sequel
use Rattle.sled_tree.specs.Change.{link_of, decision_at}
use Rattle.sled_tree.specs.Follows.{TakesWay, LinksChange}
use Rattle.sled_tree.specs.theory.Change.{IsChangeOf}
use Rattle.sled_tree.specs.StageAction.{LeaksNoPage}
use Rattle.sled_tree.specs.theory.StageAction.{StageActionBy, DecidesAs, Only}
use Rattle.sled_nodes.specs.Node.{value_at}
use Rattle.sled_model.specs.State.{IsOnKey}
use Rattle.sled_tree.proofs.Replying.{links_on_key}
use Rattle.sled_tree.proofs.Facts.{once_acts, leaves_replaced, rid_of_none}

-- the link of an effect changes the tree's contents as the effect does
module _ {m : Snapshot} {w : Forest} (is : HasForest m w) (t : Tree) (number : ℕ) (key : Key) (look : View) (node : Node) (k : IsActing m w t number (Included key) look) (fits : HasRoomForOne look) (c : IsNodeNow m t number look node) (version : ℕ) (unused : m.versions version ≡ false) where
  abbrev wrote_as : Effect → Snapshot → Type 0
  wrote_as e new = KeepsForest [] [] m w new w × (contents (nodes_at new) w t ≡ map_after e key (contents (nodes_at m) w t)) × ((u : Tree) → u ≢ t → contents (nodes_at new) w u ≡ contents (nodes_at m) w u)

  written : {new : Snapshot} {fits : Type 0} {change : List (Key × Key) → List (Key × Key)} → Written m w new t change fits → fits → KeepsForest [] [] m w new w
  written d f = record { is = d.steps.is; goes = d.steps.goes; fresh = λ q i. absurd i; sized = d.sized f; grows = d.grows f }

  wrote : (e : Effect) (link : Link) → link_of e key ≡ Some link → wrote_as e (after_replacement m look.pid (record { version = version; node = after_link link node }))
  wrote effect.Nothing link l = none_some l
  wrote (effect.Set v) link l = subst (λ z. wrote_as (effect.Set v) (after_replacement m look.pid (record { version = version; node = after_link z node }))) (some_is l)
      (let d = set_written is t number key look node k c v version unused in (written d (set_few is t number key look node k c v fits), d.here, d.others))
  wrote effect.Remove link l = subst (λ z. wrote_as effect.Remove (after_replacement m look.pid (record { version = version; node = after_link z node }))) (some_is l)
      (let d = del_written is t number key look node k c version unused in (written d tt, d.here, d.others))

-- the call's change is linked
pub act_moves : (operator : Option Operator) (j : Course) (old new : Store) (view : View) (change : Change) (given : ℕ) → IsChangeOf operator j.call view.node.content (Some change) → Changes (after_link change.link) view.pid view.version old new (Ok given) → StageActionBy (Only operator) j old (Act view) (sequel.Decided change.reply) new
act_moves operator j old new view change given is c = record {
  touches = inr (once_acts c.is.2);
  is = λ numbers gave w at named a.
      let m : Snapshot = snapshot_of old numbers gave in
      let t : Tree = j.tree.name in
      let key : Key = key_of j.call in
      let all : List (Key × Key) = contents (nodes_at m) w t in
      let current : IsNodeNow m t j.tree.number view c.is.0 = record { named = named; page = c.is.1 } in
      let e : Effect = (decision_at operator j.call view.node.content).effect in
      let on_key : IsOnKey j.call = links_on_key j.call (value_at view.node.content (key_of j.call)) a.1 in
      let acts : IsActing m w t j.tree.number (Included key) view = subst (λ aim. IsActing m w t j.tree.number aim view) (a.2.key on_key) a.0.0 in
      let did = wrote at t j.tree.number key view c.is.0 acts a.0.1 current given c.is.2.fresh e change.link is.0 in
      let after : snapshot_of new numbers gave ≡ after_replacement m view.pid (record { version = given; node = after_link change.link c.is.0 }) = store_replaced numbers gave c.is.2 in
      let same : decision_of operator j.call (find key_cmp key all) ≡ decision_at operator j.call view.node.content = ap (decision_of operator j.call) (answers at t j.tree.number key view c.is.0 acts current) in (
        w,
        subst (λ (z : Snapshot). KeepsForest [] [] m w z w) (sym after) (did.0),
        λ which same_one. subst (λ (o : Option Operator). DecidesAs o j change.reply old new m w (snapshot_of new numbers gave) w) (sym same_one) (subst (λ (z : Snapshot). DecidesAs operator j change.reply old new m w z w) (sym after) (record {
          on_key = on_key;
          replies = is.1 ∙ ap (λ (d : Decision). d.reply) (sym same);
          here = did.1 ∙ ap (λ (d : Decision). map_after d.effect key all) (sym same);
          others = did.2;
          quiet = λ none. linked e key change.link is.0 (silent e key (ap (λ (d : Decision). event_of d.effect key) (sym same) ∙ none));
          loud = λ some. once_acts c.is.2;
        })),
        subst (λ (z : Snapshot). LeaksNoPage [] [] m.state z.state w) (sym after) (leaves_replaced [] [] m view.pid (record { version = view.version; node = c.is.0 }) (record { version = given; node = after_link change.link c.is.0 }) w c.is.1
            (rid_of_none [] (record { version = view.version; node = c.is.0 }) view.node (a.0.0.seen.view.speaks (record { version = view.version; node = c.is.0 }) c.is.1 refl) a.0.0.seen.is_open.free) (λ q i. absurd i)),
      );
}
  where
    linked : {X : Type 0} (e : Effect) (key : Key) (link : Link) → link_of e key ≡ Some link → e ≡ effect.Nothing → X
    linked e key link is none = none_some (sym (ap (λ z. link_of z key) none) ∙ is)

    silent : (e : Effect) (key : Key) → event_of e key ≡ None → e ≡ effect.Nothing
    silent effect.Nothing key none = refl
    silent (effect.Set v) key none = none_some (sym none)
    silent effect.Remove key none = none_some (sym none)

-- what was linked is the change by this operator
module _ (operator : Option Operator) (j : Course) (old new : Store) (view : View) (change : Change) (is : IsChangeOf operator j.call view.node.content (Some change)) where
  pub links_follows : (given : ℕ) → Changes (after_link change.link) view.pid view.version old new (Ok given) → LinksChange j old new view (sequel.Decided change.reply)
  links_follows given c = record { operator = operator; is = subst (λ (l : Option Link). MatchOption l ((new ≡ old) × (sequel.Decided change.reply ≡ sequel.Go Root)) (λ link. TakesWay (after_link link) view.pid view.version old new (sequel.Decided change.reply) (λ _. sequel.Decided (decision_at operator j.call view.node.content).reply) (λ _. sequel.Go Root))) (sym is.0) (inl (given, c, ap sequel.Decided is.1)) }

  -- or the leaf was changed since
  pub late_follows : (present : Option ℕ) → Changes (after_link change.link) view.pid view.version old new (Err present) → LinksChange j old new view (sequel.Go Root)
  late_follows present c = record { operator = operator; is = subst (λ (l : Option Link). MatchOption l ((new ≡ old) × (sequel.Go Root ≡ sequel.Go Root)) (λ link. TakesWay (after_link link) view.pid view.version old new (sequel.Go Root) (λ _. sequel.Decided (decision_at operator j.call view.node.content).reply) (λ _. sequel.Go Root))) (sym is.0) (inr (present, c, refl)) }
