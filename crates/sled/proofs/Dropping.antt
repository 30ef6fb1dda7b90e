-- What the pages of a dropped tree leave of all else, as they are freed.
use Rattle.std.proofs.Common.{◌≡◌, ℕ, ◌+◌, Bool, true, false, List, [], ◌∷◌, Option, Some, None, option_map, sym, refl, ap, ◌∙◌, subst, inl, inr}
use Rattle.sled_store.specs.In.{In}
use Rattle.sled_store.specs.State.{State, nodes_of, PageBecomes}
use Rattle.sled_store.specs.Store.{Store, now, after_action}
use Rattle.sled_store.specs.theory.Facts.{now_acted, put_elsewhere}
use Rattle.sled_nodes.specs.declared.node.Node.{Node}
use Rattle.sled_store.specs.declared.page.Page.{Page}
use Rattle.tree_laws.specs.Forest.{Tree, Forest, Place, place, IsSized, contents}
use Rattle.tree_laws.specs.Crashes.{AddsCrashStates}
use Rattle.tree_laws.specs.Snapshot.{Snapshot, snapshot_of, nodes_at, HasForest, IsOrphan}
use Rattle.tree_laws.specs.Stages.{owned}
use Rattle.tree_laws.specs.theory.Snapshot.{Guarantee, GrowsByReceiving}
use Rattle.tree_laws.specs.theory.Laws.{after_free}
use Rattle.tree_laws.proofs.Crashing.{adds_acted, extends_nothing, extends_same, extends_then}
use Rattle.tree_laws.proofs.Mapped.{quiet_crash_law}
use Rattle.tree_laws.proofs.States.{free_law}
use Rattle.tree_laws.proofs.Reading.{one_law}
use Rattle.tree_laws.proofs.Staged.{apart_law}
use Rattle.sled_tree.specs.Course.{aim_of, course_of}
use Rattle.sled_tree.specs.Stages.{Knows}
use Rattle.sled_tree.specs.Known.{IsKnown}
use Rattle.sled_tree.specs.declared.flight.InFlight.{InFlight}
use Rattle.sled_tree.proofs.Known.{stage_kept}
use Rattle.tree_groups.specs.Writes.{PagesLast}
use Rattle.tree_groups.proofs.Writing.{page_gone, number_given}
use Rattle.tree_pages.specs.theory.Drops.{FreesPages, FreesNone, FreesOne, Counts}

-- a page that is there keeps its number, and what a page was and is
pub lasts_then : {m n o : Snapshot} → ((p : ℕ) (g : Node) → nodes_at m p ≡ Some g → m.pids p ≡ true) → PagesLast m n → PagesLast n o → PagesLast m o
lasts_then {m} {n} {o} given a b = record {
  pids = λ p e. b.pids p (a.pids p e);
  merges = λ p g live on. elim (a.merges p g live on) [ inl same ↦ b.merges p g same on | inr none ↦ inr (b.gone p (a.pids p (given p g live)) none) ];
  gone = λ p e none. b.gone p (a.pids p e) (a.gone p e none);
}

pub lasts_goes : {mine : List ℕ} {lost : Option Tree} {m n : Snapshot} {w v : Forest} → Guarantee mine lost m w n v → PagesLast m n
lasts_goes {m = m} g = record {
  pids = g.pids;
  merges = g.keeps.capped;
  gone = λ p given none. ap (option_map (λ (x : Page). x.node)) (g.gone p given (page_gone m.state p none));
}

-- what a call in flight knows stays true through an action that none of its own pages is touched by
pub known_on : {mine : List ℕ} {lost : Option Tree} {m n : Snapshot} {w v : Forest} → HasForest m w → HasForest n v → Guarantee mine lost m w n v → GrowsByReceiving (nodes_at m) (nodes_at n) w
    → (h : InFlight) → ((q : ℕ) → In q (owned h.stage) → In q mine → ⊥) → IsKnown m h → IsKnown n h
known_on {n = n} {w = w} {v = v} is on goes grows h off k = record {
  is = λ u at. subst (λ (z : Forest). Knows n z (course_of h) h.stage) (one_law (nodes_at n) n.state.roots v u on.formed at.formed) (stage_kept is goes grows (course_of h) h.stage off (k.is w is));
  aimed = k.aimed;
  fits = k.fits;
  begins = k.begins;
}

-- no page of a chain is a call's own
pub off_chains : {m : Snapshot} {w : Forest} → HasForest m w → (h : InFlight) → IsKnown m h → (x : Place) (q : ℕ) → In q (owned h.stage) → In q (w.chain x) → ⊥
off_chains {m} {w} is h k x q own i = apart_law [] (q ∷ []) m w is (λ p j. elim j [ inl e ↦ inr (inr (x, subst (λ z. w.home z ≡ Some x) (sym e) (is.formed.homed x q i))) | inr none ↦ absurd none ]) h.job.tree.name h.job.tree.number (aim_of h.job h.aim) h.stage (k.is w is).0 q own (λ none. none) (inl refl)

-- The pages of a dropped tree are freed. They had their home in the forest `was`, and have none in the forest now
module _ (numbers : Tree → Option ℕ) (given : ℕ → Bool) (was w : Forest) (t : Tree) (stray : (p h : ℕ) → In p (was.chain (place t h)) → IsOrphan w p) where
  abbrev at : Store → Snapshot
  at s = snapshot_of s numbers given

  -- what was freed leaves of all else
  pub record Leaves (a b : Store) : Type 0 where
    pub is : HasForest (at b) w
    pub sized : IsSized (nodes_at (at b)) w
    pub no_group : (now b).in_group ≡ false
    pub extends : AddsCrashStates [] a b
    pub same : (u : Tree) → contents (nodes_at (at b)) w u ≡ contents (nodes_at (at a)) w u
    pub others : (h : InFlight) → ((p k : ℕ) → In p (owned h.stage) → In p (was.chain (place t k)) → ⊥) → IsKnown (at a) h → IsKnown (at b) h
    pub last : PagesLast (at a) (at b)
    pub untouched : (p : ℕ) → ((k : ℕ) → In p (was.chain (place t k)) → ⊥) → nodes_at (at b) p ≡ nodes_at (at a) p
    pub mark : b.mark ≡ a.mark

  leaves_then : {a b c : Store} → HasForest (at a) w → Leaves a b → Leaves b c → Leaves a c
  leaves_then is x y = record {
    is = y.is;
    sized = y.sized;
    no_group = y.no_group;
    extends = extends_then x.extends y.extends;
    same = λ u. y.same u ∙ x.same u;
    others = λ h off k. y.others h off (x.others h off k);
    last = lasts_then (number_given _ w is) x.last y.last;
    untouched = λ p off. y.untouched p off ∙ x.untouched p off;
    mark = y.mark ∙ x.mark;
  }

  leaves_same : (a : Store) → HasForest (at a) w → IsSized (nodes_at (at a)) w → (now a).in_group ≡ false → Leaves a a
  leaves_same a is sized out = record {
    is = is;
    sized = sized;
    no_group = out;
    extends = extends_same a;
    same = λ u. refl;
    others = λ h off k. k;
    last = record { pids = λ p e. e; merges = λ p n live on. inl live; gone = λ p e none. none };
    untouched = λ p off. refl;
    mark = refl;
  }

  -- a fault is counted
  leaves_counts : (a : Store) (n : ℕ) → HasForest (at a) w → IsSized (nodes_at (at a)) w → (now a).in_group ≡ false → Leaves a (record a { faults = n })
  leaves_counts a n is sized out = record {
    is = is;
    sized = sized;
    no_group = out;
    extends = extends_nothing a (record a { faults = n }) refl refl refl;
    same = λ u. refl;
    others = λ h off k. k;
    last = record { pids = λ p e. e; merges = λ p n live on. inl live; gone = λ p e none. none };
    untouched = λ p off. refl;
    mark = refl;
  }

  -- a page is freed
  module _ (a : Store) (p h : ℕ) (chained : In p (was.chain (place t h))) (is : HasForest (at a) w) (sized : IsSized (nodes_at (at a)) w) (out : (now a).in_group ≡ false) where
    abbrev then : Store
    then = after_action (PageBecomes p None) a

    freed_at : at then ≡ after_free (at a) p
    freed_at = ap (λ (s : State). record { state = s; pids = a.pids; versions = a.versions; numbers = numbers; given = given }) (now_acted (PageBecomes p None) a)

    out_then : (now then).in_group ≡ false
    out_then = ap (λ (s : State). s.in_group) (now_acted (PageBecomes p None) a) ∙ out

    leaves_one : Leaves a then
    leaves_one =
        let law = free_law (at a) w p is (stray p h chained) in
        let forest : HasForest (at then) w = subst (λ (m : Snapshot). HasForest m w) (sym freed_at) law.0.is in
        let goes : Guarantee (p ∷ []) None (at a) w (at then) w = subst (λ (m : Snapshot). Guarantee (p ∷ []) None (at a) w m w) (sym freed_at) law.0.goes in
        let same : ((u : Tree) → contents (nodes_at (at then)) w u ≡ contents (nodes_at (at a)) w u) = subst (λ (m : Snapshot). (u : Tree) → contents (nodes_at m) w u ≡ contents (nodes_at (at a)) w u) (sym freed_at) law.1 in
        let small : IsSized (nodes_at (at then)) w = subst (λ (m : Snapshot). IsSized (nodes_at m) w) (sym freed_at) (law.2 sized) in
        let grows : GrowsByReceiving (nodes_at (at a)) (nodes_at (at then)) w = subst (λ (m : Snapshot). GrowsByReceiving (nodes_at (at a)) (nodes_at m) w) (sym freed_at) law.3 in
        record {
          is = forest;
          sized = small;
          no_group = out_then;
          extends = quiet_crash_law (PageBecomes p None) a then numbers given w w (adds_acted (PageBecomes p None) a) out out_then is forest small same;
          same = same;
          others = λ f off k. known_on is forest goes grows f (λ q own i. elim i [ inl e ↦ off q h own (subst (λ z. In z (was.chain (place t h))) (sym e) chained) | inr none ↦ none ]) k;
          last = lasts_goes goes;
          untouched = λ q off. ap (λ (s : State). nodes_of s q) (now_acted (PageBecomes p None) a) ∙ ap (option_map (λ (g : Page). g.node)) (put_elsewhere (now a).pages p q None (λ e. off h (subst (λ z. In z (was.chain (place t h))) (sym e) chained)));
          mark = refl;
        }

  pub leaves_all : {ps : List ℕ} {a b : Store} → FreesPages was t ps a b → HasForest (at a) w → IsSized (nodes_at (at a)) w → (now a).in_group ≡ false → Leaves a b
  leaves_all {a} FreesNone is sized out = leaves_same a is sized out
  leaves_all {a} (FreesOne p h page i live rest) is sized out =
      let one = leaves_one a p h i is sized out in
      leaves_then is one (leaves_all rest one.is one.sized one.no_group)
  leaves_all {a} (Counts rest) is sized out =
      let one = leaves_counts a (a.faults + 1) is sized out in
      leaves_then is one (leaves_all rest one.is one.sized one.no_group)
