-- What each step of the walk over a tree adds to what was found.
use Rattle.std.proofs.Common.{◌≡◌, ℕ, ◌+◌, ◌<◌, ◌≤◌, Bool, true, List, [], ◌∷◌, ◌++◌, length, get_or, Option, Some, None, sym, refl, ap, ◌∙◌, subst, inl, inr, ◌⊎◌}
use Rattle.std.specs.List.{All, AllWithin}
use Rattle.sled_store.specs.In.{In}
use Rattle.sled_nodes.specs.Node.{pointers, count}
use Rattle.sled_nodes.specs.Order.{Key}
use Rattle.sled_store.specs.State.{State, nodes_of}
use Rattle.sled_nodes.specs.declared.node.Node.{Node}
use Rattle.sled_store.specs.declared.page.View.{View}
use Rattle.tree_laws.specs.Forest.{Run}
use Rattle.tree_laws.proofs.Runs.{In-left, In-right, In_cases, run_join}
use Rattle.tree_check.specs.declared.levels.Level.{Level}
use Rattle.tree_check.specs.theory.Tree.{IsPage}
use Rattle.tree_check.specs.theory.Walk.{Levels, level_of, IsChained, AddsPage, Extends, ReadsChain, LeadsTo, IsReceived, FindsReceived, IsFoundOn, HasMergingChild, pids, end_at, end_of}
use Rattle.tree_check.proofs.Listed.{map_append, in_at, one_more, all_in, last_is}

abbrev pub Keeps : Levels → Levels → Type 0
Keeps old new = (q : ℕ) (z : Level) → level_of old q ≡ Some z → level_of new q ≡ Some z

-- nothing was read so far
pub chain_none : (s : State) (children : ℕ → Bool) (level : Level) (first : ℕ) (old : Levels) → ReadsChain s children level first [] (Some first) [] old old
chain_none s children level first old = record { run = (refl, refl); each = λ v i. absurd i; kept = λ q z e. e; adds = λ q z e. inl e }

pub chain_more : (s : State) (children : ℕ → Bool) (level : Level) (first pid : ℕ) (vs : List View) (lo : Key) (v : View) (old mid new : Levels)
    → ReadsChain s children level first vs (Some pid) lo old mid → AddsPage s children level pid lo v mid new → ReadsChain s children level first (vs ++ v ∷ []) v.node.next v.node.hi old new
chain_more s children level first pid vs lo v old mid new r a = record {
  run = subst (λ ps. Run (nodes_of s) ps (Some first) [] v.node.next v.node.hi) (sym (map_append (λ (x : View). x.pid) vs (v ∷ [])))
      (run_join (nodes_of s) (pids vs) (v.pid ∷ []) (Some first) (Some pid) v.node.next [] lo v.node.hi r.run (v.node, record { live = a.read.live; here = ap Some (sym a.read.is); lo_is = a.begins; rises = a.rises }, (refl, refl)));
  each = λ x i. elim (In_cases vs (v ∷ []) x i) [
    | inl j ↦ let c = r.each x j in record { live = c.live; page = c.page; found = a.sets.kept x.pid level c.found; parent = c.parent }
    | inr j ↦ elim j [
      | inl e ↦ subst (IsChained s children level new) (sym e) (record { live = a.read.live; page = a.page; found = ap (level_of new) a.read.is ∙ a.sets.here; parent = λ m. ap children a.read.is ∙ a.parent m })
      | inr end ↦ absurd end
    ]
  ];
  kept = λ q z e. a.sets.kept q z (r.kept q z e);
  adds = λ q z e. elim (a.sets.adds q z e) [
    | inl old ↦ elim (r.adds q z old) [
      | inl e ↦ inl e
      | inr m ↦ inr (subst (In q) (sym (map_append (λ (x : View). x.pid) vs (v ∷ []))) (In-left (pids vs) (v.pid ∷ []) q m.0), m.1)
    ]
    | inr m ↦ inr (subst (In q) (sym (map_append (λ (x : View). x.pid) vs (v ∷ []))) (In-right (pids vs) (v.pid ∷ []) q (inl (m.0 ∙ sym a.read.is))), m.1)
  ];
}

-- a pointer leads on where more pages have levels
pub leads_on : (s : State) (v : View) (level : Level) (old new : Levels) (k : Key) (c : ℕ) → Keeps old new → LeadsTo s v level old k c → LeadsTo s v level new k c
leads_on s v level old new k c kept l = record { node = l.node; live = l.live; found = kept c level l.found; key = l.key; merged = l.merged; few = l.few }

-- a page that was found is found where more pages have levels
pub found_still : (s : State) (level : Level) (old new : Levels) (chain : List View) → Keeps old new → ((v : View) → In v chain → IsFoundOn s level old v) → (v : View) → In v chain → IsFoundOn s level new v
found_still s level old new chain kept found v i = record { live = (found v i).live; found = kept v.pid level (found v i).found }

-- the pages of a chain were found
pub chain_found : (s : State) (children : ℕ → Bool) (level : Level) (first : ℕ) (chain : List View) (to : Option ℕ) (hi : Key) (old new : Levels) → ReadsChain s children level first chain to hi old new → (v : View) → In v chain → IsFoundOn s level new v
chain_found s children level first chain to hi old new r v i = record { live = (r.each v i).live; found = (r.each v i).found }

-- a pointer that leads to a page that was found
pub leads_found : (s : State) (v found : View) (level : Level) (levels : Levels) (k : Key) (c : ℕ) → IsFoundOn s level levels found → found.pid ≡ c → found.node.lo ≡ k
    → (found.node.merging ≡ true → v.node.merging_child ≡ Some found.pid) → (v.node.merging_child ≡ Some found.pid → count found.node.content ≤ 17) → LeadsTo s v level levels k c
leads_found s v found level levels k c is here key merged few = subst (LeadsTo s v level levels k) here (record { node = found.node; live = is.live; found = is.found; key = key; merged = merged; few = few })

pub received_none : (s : State) (above : List View) (level : Level) (old : Levels) → FindsReceived s above level old old
received_none s above level old = record { kept = λ q z e. e; adds = λ q z e. inl e }

pub received_then : (s : State) (above : List View) (level : Level) (a b c : Levels) → FindsReceived s above level a b → FindsReceived s above level b c → FindsReceived s above level a c
received_then s above level a b c t u = record {
  kept = λ q z e. u.kept q z (t.kept q z e);
  adds = λ q z e. elim (u.adds q z e) [ inl old ↦ t.adds q z old | inr new ↦ inr new ];
}

-- what one page leads to is led to by these
pub received_of : (s : State) (above : List View) (v : View) (level : Level) (old new : Levels) → In v above → FindsReceived s (v ∷ []) level old new → FindsReceived s above level old new
received_of s above v level old new i t = record {
  kept = t.kept;
  adds = λ q z e. elim (t.adds q z e) [
    | inl old ↦ inl old
    | inr m ↦ inr (m.0, v, i, elim m.2 [ inl same ↦ subst (λ x. IsReceived s x level q) same m.3 | inr end ↦ absurd end ])
  ];
}

pub received_one : (s : State) (v found : View) (level : Level) (pid : ℕ) (old new : Levels) → nodes_of s found.pid ≡ Some found.node → found.pid ≡ pid
    → (found.node.merging ≡ true → v.node.merging_child ≡ Some pid) → Keeps old new
    → ((q : ℕ) (z : Level) → level_of new q ≡ Some z → (level_of old q ≡ Some z) ⊎ ((z ≡ level) × (q ≡ found.pid) × IsPage level.height found.node × (found.node.merging ≡ true)))
    → FindsReceived s (v ∷ []) level old new
received_one s v found level pid old new live is merged kept adds = record {
  kept = kept;
  adds = λ q z e. elim (adds q z e) [
    | inl old ↦ inl old
    | inr m ↦ inr (m.0, v, inl refl, record { node = found.node; live = ap (nodes_of s) m.1 ∙ live; page = m.2; merging = m.3; child = merged m.3 ∙ ap Some (sym is ∙ sym m.1) })
  ];
}

-- one pointer more
pub pointers_more : (s : State) (v : View) (level : Level) (es : List (Key × ℕ)) (i : ℕ) (e : Key × ℕ) (a b c : Levels)
    → (AllWithin (λ e. LeadsTo s v level b e.0 e.1) es 0 i × FindsReceived s (v ∷ []) level a b)
    → ((d : Key × ℕ) → get_or es i d ≡ e) → LeadsTo s v level c e.0 e.1 → FindsReceived s (v ∷ []) level b c
    → AllWithin (λ e. LeadsTo s v level c e.0 e.1) es 0 (i + 1) × FindsReceived s (v ∷ []) level a c
pointers_more s v level es i e a b c h is l t = (one_more (λ e. LeadsTo s v level c e.0 e.1) es i e (λ k d low high. leads_on s v level b c _ _ t.kept (h.0 k d low high)) is l, received_then s (v ∷ []) level a b c h.1 t)

-- one page more
pub pages_more : (s : State) (above : List View) (level : Level) (i : ℕ) (v : View) (a b c : Levels) → i < length above
    → (AllWithin (λ v. All (λ e. LeadsTo s v level b e.0 e.1) (pointers v.node.content)) above 0 i × FindsReceived s above level a b)
    → ((d : View) → get_or above i d ≡ v) → All (λ e. LeadsTo s v level c e.0 e.1) (pointers v.node.content) → FindsReceived s (v ∷ []) level b c
    → AllWithin (λ v. All (λ e. LeadsTo s v level c e.0 e.1) (pointers v.node.content)) above 0 (i + 1) × FindsReceived s above level a c
pages_more s above level i v a b c less h is l t = (
  one_more (λ v. All (λ e. LeadsTo s v level c e.0 e.1) (pointers v.node.content)) above i v (λ k d low high j f m. leads_on s (get_or above k d) level b c _ _ t.kept (h.0 k d low high j f m)) is l,
  received_then s above level a b c h.1 (received_of s above v level b c (subst (λ x. In x above) (is v) (in_at above i v less)) t),
)

end_after : (vs : List View) (v : View) → end_of (vs ++ v ∷ []) ≡ v.node.hi
end_after vs v = ap end_at (last_is vs v)

-- the chain with its next page, which leads on
pub chain_goes : (s : State) (children : ℕ → Bool) (level : Level) (first pid : ℕ) (vs ws : List View) (from to : Option ℕ) (old mid new : Levels)
    → ReadsChain s children level first vs (Some pid) (end_of vs) old mid → Extends s children level pid from vs ws mid new → from ≡ to → ReadsChain s children level first ws to (end_of ws) old new
chain_goes s children level first pid vs ws from to old mid new r x is =
    subst (λ xs. ReadsChain s children level first xs to (end_of xs) old new) (sym x.pushed)
    (subst (λ k. ReadsChain s children level first (vs ++ x.view ∷ []) to k old new) (sym (end_after vs x.view))
    (subst (λ o. ReadsChain s children level first (vs ++ x.view ∷ []) o x.view.node.hi old new) (x.next ∙ is)
    (chain_more s children level first pid vs (end_of vs) x.view old mid new r x.is)))

-- the chain with its last page
pub chain_ends : (s : State) (children : ℕ → Bool) (level : Level) (first pid : ℕ) (vs ws : List View) (from : Option ℕ) (old mid new : Levels)
    → ReadsChain s children level first vs (Some pid) (end_of vs) old mid → Extends s children level pid from vs ws mid new → from ≡ None → ReadsChain s children level first ws None [] old new
chain_ends s children level first pid vs ws from old mid new r x is =
    subst (λ k. ReadsChain s children level first ws None k old new) (ap end_of x.pushed ∙ (end_after vs x.view ∙ x.is.ends (x.next ∙ is)))
    (chain_goes s children level first pid vs ws from None old mid new r x is)

-- one page's merging child more
pub child_more : (above : List View) (i : ℕ) (v : View) (n : Node) (old new : ℕ → Bool) → i < length above → v ≡ get_or above i v → n ≡ v.node
    → ((c : ℕ) → old c ≡ true → HasMergingChild above c) → ((c : ℕ) → new c ≡ true → (old c ≡ true) ⊎ (n.merging_child ≡ Some c)) → (c : ℕ) → new c ≡ true → HasMergingChild above c
child_more above i v n old new less is same before more c e = elim (more c e) [
  | inl h ↦ before c h
  | inr h ↦ (v, subst (λ x. In x above) (sym is) (in_at above i v less), ap (λ (x : Node). x.merging_child) (sym same) ∙ h)
]

pub all_lead : (s : State) (above : List View) (level : Level) (levels : Levels) → All (λ v. All (λ e. LeadsTo s v level levels e.0 e.1) (pointers v.node.content)) above
    → (v : View) → In v above → (k : Key) (c : ℕ) → In (k, c) (pointers v.node.content) → LeadsTo s v level levels k c
all_lead s above level levels a v i k c j = all_in (λ e. LeadsTo s v level levels e.0 e.1) (pointers v.node.content) (all_in (λ v. All (λ e. LeadsTo s v level levels e.0 e.1) (pointers v.node.content)) above a v i) (k, c) j
