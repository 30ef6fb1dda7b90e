-- Where a reading walk goes.
use Rattle.std.proofs.Common.{◌≡◌, ◌≢◌, ◌⊎◌, ℕ, suc, ◌<◌, ◌↔◌, IsTrue, Bool, true, false, not, List, [], ◌∷◌, length, Option, Some, None, sym, refl, ap, ◌∙◌, subst, inl, inr}
use Rattle.std.specs.List.{list_any}
use Rattle.std.specs.Ordering.{is_lt, is_gt}
use Rattle.std.specs.declared.ops.Bound.{Bound}
use Rattle.std.specs.declared.ops.Bound.TheVariants.{Included, Excluded, Unbounded}
use Rattle.sled_nodes.proofs.Basics.{some_is, not_true, untrue, is_less, true_false}
use Rattle.sled_nodes.specs.Order.{Key, key_cmp, Below}
use Rattle.sled_store.specs.In.{In}
use Rattle.sled_nodes.specs.Among.{is_up_to, IsPointer, IsPointerFor, IsBefore, IsPointerBefore}
use Rattle.sled_nodes.specs.Node.{pointers}
use Rattle.sled_store.specs.State.{Nodes}
use Rattle.sled_nodes.specs.declared.node.Node.{Node}
use Rattle.sled_nodes.specs.declared.node.Data.{Data}
use Rattle.sled_nodes.specs.declared.node.Data.TheVariants.{Leaf, Index}
use Rattle.tree_laws.specs.Forest.{Tree, Forest, place, WellFormed, Holds}
use Rattle.tree_laws.specs.Paths.{NeedsNoRepair, IsAhead}
use Rattle.tree_laws.proofs.Order.{upto-below, below_upto-trans, below-trans}
use Rattle.tree_laws.proofs.Runs.{In-right}
use Rattle.tree_laws.proofs.Cover.{holds_at}
use Rattle.tree_laws.proofs.Known.{leaf_in, index_high, sound_at}
use Rattle.tree_laws.proofs.Looking.{next_in, next_some, ahead_next, ahead_down, pointer_in, last_in, clean_page, clean_down}
use Rattle.tree_laws.proofs.Halving.{before_law}
use Rattle.tree_laws.proofs.Before.{before_child_law, leads_down_law}
use Rattle.tree_reads.specs.Walk.{IsUnder}
use Rattle.tree_reads.specs.theory.Walk.{IsIndex, LiesBehind, Stands, turns_as, Turns}

-- the page stands in its chain
standing : {nodes : Nodes} {w : Forest} {t : Tree} {target : Bound Key} {p ahead : ℕ} → (s : Stands nodes w t target p ahead) → In p (w.chain (place t s.height))
standing {p = p} s = subst (λ l. In p l) (sym s.is.is) (In-right s.is.before (p ∷ s.is.behind) p (inl refl))

-- the key of a page that is passed does not lie behind it
not_behind : (target : Bound Key) (nodes : Nodes) (key : Key) (p : ℕ) (first : Bool) (n : Node) → target ≡ Included key → NeedsNoRepair nodes (Included key) p first n → LiesBehind target n → ⊥
not_behind target nodes key p first n is k b = elim k.under.1 [
  | inl e ↦ b.0 e
  | inr l ↦ true_false (sym b.1 ∙ ap (λ z. is_up_to z n.hi) is ∙ l)
]

-- to the right
pub turns_right : (target : Bound Key) (n : Node) → LiesBehind target n → Turns target n n.next
turns_right target n b = record {
  is = λ nodes roots w f t p ahead live s.
      let q = next_some f (place t s.height) p n (standing s) live b.0 in
      subst (turns_as nodes w t target p n ahead) (sym q.1) (
      let d = next_in f (place t s.height) p q.0 n (standing s) live q.1 in
      let k = ahead_next f t s.height p q.0 ahead n s.is live q.1 in
      (k.0, k.1, record { height = s.height; node = d.0; live = d.2; begins = ap (is_up_to target) d.3 ∙ b.1; is = k.2 })
      );
  clean = λ nodes key p first path is live c. absurd (not_behind target nodes key p first n is (clean_page nodes (Included key) path p first c n live) b);
}

-- what does not lie behind ends there
under : (target : Bound Key) (n m : Node) → (LiesBehind target n → ⊥) → m ≡ n → is_up_to target m.lo ≡ true → IsUnder target n
under target n m off e begins = record {
  begins = ap (λ (z : Node). is_up_to target z.lo) (sym e) ∙ begins;
  ends = go n.hi refl (is_up_to target n.hi) refl;
}
  where
    go : (hi : Key) → n.hi ≡ hi → (b : Bool) → is_up_to target n.hi ≡ b → (n.hi ≡ []) ⊎ (is_up_to target n.hi ≡ false)
    go [] i b j = inl i
    go (x ∷ xs) i false j = inr j
    go (x ∷ xs) i true j = absurd (off (λ k. apart (sym k ∙ i), j))
      where
        apart : [] ≡ x ∷ xs → ⊥
        apart e = cc

-- a leaf ends the walk
pub turns_leaf : (target : Bound Key) (n : Node) (es : List (Key × Key)) (b : Bool) → IsTrue b ↔ LiesBehind target n → b ≡ false → n.content ≡ Leaf es → Turns target n None
turns_leaf target n es b told off leaf = record {
  is = λ nodes roots w f t p ahead live s. (
    under target n s.node (untrue b told off) (some_is (sym s.live ∙ live)) s.begins,
    subst (λ h. In p (w.chain (place t h))) (leaf_in f t s.height p n es (standing s) live leaf) (standing s),
  );
  clean = λ nodes key p first path is live c. tt;
}

index_of : (d : Data) → IsIndex d → (es : List (Key × ℕ)) × (d ≡ Index es)
index_of (Leaf es) i = absurd i
index_of (Index es) i = (es, refl)

-- a step down to a page of the level below
steps_down : {nodes : Nodes} {roots : Tree → Option ℕ} {w : Forest} → WellFormed nodes roots w → (t : Tree) (target : Bound Key) (g p c ahead : ℕ) (d : Node) → IsAhead w t (suc g) p ahead → In c (w.chain (place t g)) → nodes c ≡ Some d → is_up_to target d.lo ≡ true
    → (k : ℕ) × (k < ahead) × Stands nodes w t target c k
steps_down f t target g p c ahead d a i live begins = let k = ahead_down f t g p c ahead a i in (k.0, k.1, record { height = g; node = d; live = live; begins = begins; is = k.2 })

-- the height of an index is above another
above : {nodes : Nodes} {roots : Tree → Option ℕ} {w : Forest} → WellFormed nodes roots w → (t : Tree) (h p : ℕ) (n : Node) (es : List (Key × ℕ)) → In p (w.chain (place t h)) → nodes p ≡ Some n → n.content ≡ Index es → (g : ℕ) × (h ≡ suc g)
above f t h p n es i live index = index_high h n.lo n.hi es (subst (λ d. Holds h n.lo n.hi d) index (holds_at f (place t h) p n i live))

-- no pointer: it cannot be
pub turns_nowhere : (target : Bound Key) (n : Node) → IsIndex n.content → IsPointerFor target (pointers n.content) None → Turns target n None
turns_nowhere target n index none = record {
  is = λ nodes roots w f t p ahead live s.
      let es = index_of n.content index in
      let g = above f t s.height p n es.0 (standing s) live es.1 in
      let i : In p (w.chain (place t (suc g.0))) = subst (λ h. In p (w.chain (place t h))) g.1 (standing s) in
      let same : s.node ≡ n = some_is (sym s.live ∙ live) in
      true_false (sym (leads_down_law g.0 n target es.0 (sound_at f (place t (suc g.0)) p n i live) es.1 (ap (λ (z : Node). is_up_to target z.lo) (sym same) ∙ s.begins)) ∙ ap (λ d. list_any (λ e. is_up_to target e.0) (pointers d)) (sym es.1) ∙ none);
  clean = λ nodes key p first path is live c. tt;
}

-- down by the pointer,
pub turns_down : (target : Bound Key) (n : Node) (c : ℕ) (b : Bool) → IsIndex n.content → IsPointer target (pointers n.content) c b → (n.merging_child ≢ Some c) → Turns target n (Some c)
turns_down target n c b index k off = record {
  is = λ nodes roots w f t p ahead live s.
      let es = index_of n.content index in
      let g = above f t s.height p n es.0 (standing s) live es.1 in
      let i : In p (w.chain (place t (suc g.0))) = subst (λ h. In p (w.chain (place t h))) g.1 (standing s) in
      let d = pointer_in f t g.0 p n k.key c i live (last_in k).0 off in
      steps_down f t target g.0 p c ahead d.0 (subst (λ h. IsAhead w t h p ahead) g.1 s.is) d.1 d.2 (ap (is_up_to target) d.3 ∙ k.last.passed);
  clean = λ nodes key p first path is live c1.
      let es = index_of n.content index in
      let last : IsPointer (Included key) es.0 c b = subst (λ z. IsPointer z es.0 c b) is (subst (λ d. IsPointer target (pointers d) c b) es.1 k) in
      let d = clean_down nodes (Included key) path p first c1 n es.0 live es.1 c b last in
      (b, d.0, ap length d.1, d.2);
}

-- what is below a key within the bound is within it
pub lower : (target : Bound Key) (a b : Key) → Below a b → is_up_to target b ≡ true → is_up_to target a ≡ true
lower (Included e) a b l u = ap not (upto-below a e (below_upto-trans a b e l (not_true (is_gt (key_cmp b e)) u)))
lower (Excluded e) a b l u = ap is_lt (below-trans a b e l (is_less (key_cmp b e) u))
lower Unbounded a b l u = refl

-- or by the one before it,
pub turns_before : (target : Bound Key) (n : Node) (c : ℕ) (first : Bool) (found : Option ℕ) → IsIndex n.content → IsPointer target (pointers n.content) c first → n.merging_child ≡ Some c → IsPointerBefore c (pointers n.content) found → Turns target n found
turns_before target n c first found index last child before = record {
  is = λ nodes roots w f t p ahead live s.
      let es = index_of n.content index in
      let g = above f t s.height p n es.0 (standing s) live es.1 in
      let i : In p (w.chain (place t (suc g.0))) = subst (λ h. In p (w.chain (place t h))) g.1 (standing s) in
      let law = before_child_law nodes roots w f t g.0 p n c i live child in
      go nodes roots w f t p ahead live g.0 i (subst (λ h. IsAhead w t h p ahead) g.1 s.is) law found before;
  clean = λ nodes key p f path is live k. some_none (sym child ∙ (clean_page nodes (Included key) path p f k n live).is_open.free);
}
  where
    some_none : {P : Type 0} → Some c ≡ None → P
    some_none e = cc

    go : (nodes : Nodes) (roots : Tree → Option ℕ) (w : Forest) → WellFormed nodes roots w → (t : Tree) (p ahead : ℕ) → nodes p ≡ Some n → (g : ℕ) → In p (w.chain (place t (suc g))) → IsAhead w t (suc g) p ahead
        → ((b : ℕ) × IsBefore c (pointers n.content) b) × ((b : ℕ) → (k : IsBefore c (pointers n.content) b) → (d : Node) × In b (w.chain (place t g)) × (nodes b ≡ Some d) × (d.lo ≡ k.low) × Below k.low k.key)
        → (found : Option ℕ) → IsPointerBefore c (pointers n.content) found → turns_as nodes w t target p n ahead found
    go nodes roots w f t p ahead live g i a law None none = absurd (none law.0.0 law.0.1)
    go nodes roots w f t p ahead live g i a law (Some b) k =
        let d = law.1 b k in
        let o = before_law (suc g) n c b (sound_at f (place t (suc g)) p n i live) k in
        let u = f.pointer t g p n i live k.key c o.0 in
        let v = f.pointer t g p n i live last.key c (last_in last).0 in
        let same : k.key ≡ last.key = sym u.key ∙ ap (λ (z : Node). z.lo) (some_is (sym u.live ∙ v.live)) ∙ v.key in
        steps_down f t target g p b ahead d.0 a d.1 d.2 (ap (is_up_to target) d.3 ∙ lower target k.low k.key d.4 (ap (is_up_to target) same ∙ last.last.passed))
