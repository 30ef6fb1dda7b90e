-- A page changed by a link, and the change taken back.
use Rattle.std.proofs.Common.{◌≡◌, ℕ, ◌+◌, ◌-◌, ◌<◌, Bool, true, false, cond, nat_lt, nat_eq, List, [], ◌∷◌, ◌++◌, length, take, Option, Some, None, Result, Ok, Err, refl, sym, ap, subst, ◌∙◌, arith, length-append}
use Rattle.std.proofs.Math.Path.{fun_ext}
use Rattle.std.proofs.Math.Seq.{take-append_seam}
use Rattle.std.proofs.lemmas.Bool.{eqb-true, eqb-false}
use Rattle.std.proofs.lemmas.Bool.Decides.{nat_tests}
use Rattle.std.specs.Option.{option_map}
use lib.Dec.{eqb}
use Rattle.sled_nodes.specs.Order.{Key}
use Rattle.sled_store.specs.Update.{put_at}
use Rattle.sled_nodes.specs.Node.{after_link}
use Rattle.sled_pages.specs.Parts.{Parts, after_links, node_of, is_full, linked, unlinked}
use Rattle.sled_pages.specs.theory.Linking.{Relinked, undo_of, link_answer}
use Rattle.sled_pages.specs.theory.Memory.{IsOther}
use Rattle.sled_pages.specs.theory.Table.{slot_linked}
use Rattle.sled_store.specs.theory.Facts.{put_here}
use Rattle.sled_nodes.specs.declared.link.Link.{Link}
use Rattle.sled_nodes.specs.declared.node.Node.{Node}
use Rattle.sled_pages.specs.declared.memory.MemPages.{MemPages}
use Rattle.sled_pages.specs.declared.memory.slots.Slot.{Slot}
use Rattle.sled_pages.specs.declared.memory.undo.Undo.{Undo}
use Rattle.sled_pages.specs.declared.memory.undo.Undo.TheVariants.{UndoLink, UndoFold}
use Rattle.sled_store.specs.State.{PageBecomes}
use Rattle.sled_store.specs.Store.{Store, after_action, version_now, Changes}
use Rattle.sled_pages.specs.Slots.{slots_of}
use Rattle.sled_pages.specs.Table.{page_of, slot_unlinked, undone, undoes, has_place, slot_given, undo_given, IsKept, AreBelow}
use Rattle.sled_pages.specs.Memory.{meaning, store_of}
use Rattle.sled_pages.proofs.Places.{one_place, now_below}
use Rattle.sled_nodes.proofs.All.{all_push}
use Rattle.sled_pages.proofs.Kept.{with_slots, back_put, meaning_acted, kept_more, here_put, later, acts_at, pages_here}
use Rattle.sled_pages.proofs.Answered.{changes, has_version, has_other, has_none}

-- ---- links in order

pub after_last_link : (links : List Link) (link : Link) (n : Node) → after_links (links ++ link ∷ []) n ≡ after_link link (after_links links n)
after_last_link [] link n = refl
after_last_link (l ∷ links) link n = after_last_link links link (after_link l n)

-- a page after a link stands for the node after it
pub node_linked : (link : Link) (p : Parts) → node_of (linked link p) ≡ after_link link (node_of p)
node_linked link p = elim (is_full p) as (λ b. node_of (cond b (after_link link (node_of p), []) (p.0, p.1 ++ link ∷ [])) ≡ after_link link (node_of p)) [ true ↦ refl | false ↦ after_last_link p.1 link p.0 ]

pub not_full : (p : Parts) → length p.1 < 8 → is_full p ≡ false
not_full p h = grind (arith, nat_tests)

pub full : (p : Parts) → (length p.1 < 8 → ⊥) → is_full p ≡ true
full p h = grind (arith, nat_tests)

pub linked_open : (link : Link) (p : Parts) → is_full p ≡ false → linked link p ≡ (p.0, p.1 ++ link ∷ [])
linked_open link p e = ap (λ b. cond b (after_link link (node_of p), []) (p.0, p.1 ++ link ∷ [])) e

pub linked_full : (link : Link) (p : Parts) → is_full p ≡ true → linked link p ≡ (after_link link (node_of p), [])
linked_full link p e = ap (λ b. cond b (after_link link (node_of p), []) (p.0, p.1 ++ link ∷ [])) e

unlinked_linked : (link : Link) (p : Parts) → is_full p ≡ false → unlinked (linked link p) ≡ p
unlinked_linked link p e = ap unlinked (linked_open link p e) ∙ ap (λ n. (p.0, take n (p.1 ++ link ∷ []))) (one_less p.1 link) ∙ ap (λ ls. (p.0, ls)) (take-append_seam p.1 (link ∷ []))
  where
    one_less : (links : List Link) (link : Link) → length (links ++ link ∷ []) - 1 ≡ length links
    one_less links link = simp length-append (omega arith)

-- ---- slots

-- a slot taken out, and then put in
twice : {X : Type 0} (f : ℕ → X) (p : ℕ) (a b : X) → put_at (put_at f p a) p b ≡ put_at f p b
twice f p a b = fun_ext (λ q. elim (eqb q p) as (λ t. cond t b (cond t a (f q)) ≡ cond t b (f q)) [ true ↦ refl | false ↦ refl ])

same_put : {X : Type 0} (f : ℕ → X) (p : ℕ) (a : X) → f p ≡ a → put_at f p a ≡ f
same_put f p a e = sym (one_place f f p a e (λ q h. refl))

pub out_in : (s t u : ℕ → Option Slot) (pid : ℕ) (x : Option Slot) → t ≡ put_at s pid None → u ≡ put_at t pid x → u ≡ put_at s pid x
out_in s t u pid x out inn = inn ∙ (ap (λ f. put_at f pid x) out ∙ twice s pid None x)

abbrev slot_at : ℕ → Parts → Option Slot
slot_at version page = Some (record { version = version; page = page })

pub unchanged : (pid : ℕ) (s t u : ℕ → Option Slot) (o : Option Slot) (slot : Slot) (page : Parts) → o ≡ s pid → o ≡ Some slot → t ≡ put_at s pid None → u ≡ put_at t pid (slot_at slot.version page) → page ≡ slot.page → u ≡ s
unchanged pid s t u o slot page was is out inn e =
    out_in s t u pid (slot_at slot.version page) out inn ∙ (ap (λ n. put_at s pid (slot_at slot.version n)) e ∙ same_put s pid (Some slot) (sym was ∙ is))

pub unlinks : (pid version : ℕ) (s t u : ℕ → Option Slot) (o : Option Slot) (slot : Slot) (page : Parts) → o ≡ s pid → o ≡ Some slot → t ≡ put_at s pid None → u ≡ put_at t pid (slot_at version page) →
    page ≡ unlinked slot.page → u ≡ put_at s pid (slot_unlinked version (s pid))
unlinks pid version s t u o slot page was is out inn e =
    out_in s t u pid (slot_at version page) out inn ∙ (ap (λ n. put_at s pid (slot_at version n)) e ∙ ap (λ x. put_at s pid (slot_unlinked version x)) (sym is ∙ was))

pub unlinks_none : (pid version : ℕ) (s t : ℕ → Option Slot) (o : Option Slot) → o ≡ s pid → o ≡ None → t ≡ put_at s pid None → t ≡ put_at s pid (slot_unlinked version (s pid))
unlinks_none pid version s t o was is out = out ∙ ap (λ x. put_at s pid (slot_unlinked version x)) (sym is ∙ was)

-- ---- what a link answers

abbrev Answer : Type 0
Answer = Result Undo (Option ℕ)

abbrev answer_by : ℕ → Slot → Bool → Answer
answer_by pid s b = cond b (Ok (undo_of pid s.version s.page)) (Err (Some s.version))

ok_same : (x y : Undo) (answer : Answer) → answer ≡ Ok x → answer ≡ Ok y → x ≡ y
ok_same x y answer e f = cc

err_same : (x y : Option ℕ) (answer : Answer) → answer ≡ Err x → answer ≡ Err y → x ≡ y
err_same x y answer e f = cc

ok_err : (x : Undo) (y : Option ℕ) (answer : Answer) → answer ≡ Ok x → answer ≡ Err y → ⊥
ok_err x y answer e f = cc

module _ (link : Link) (pid version next : ℕ) (slots slots' : ℕ → Option Slot) (answer : Answer) where
  -- the slot has the version
  pub relinked : (undo : Undo) → answer ≡ Ok undo → answer ≡ link_answer pid version (slots pid) → slots' ≡ put_at slots pid (slot_linked link version next (slots pid)) → Relinked link pid version next slots slots' undo
  relinked undo e = by (slots pid) refl
    where
      by_test : (s : Slot) (b : Bool) → slots pid ≡ Some s → nat_eq s.version version ≡ b → answer ≡ answer_by pid s b → slots' ≡ put_at slots pid (cond b (slot_at next (linked link s.page)) (Some s)) → Relinked link pid version next slots slots' undo
      by_test s true was same told is =
          let v : s.version ≡ version = eqb-true s.version version same in
          record {
            page = s.page;
            was = was ∙ ap (λ n. slot_at n s.page) v;
            is = is;
            told = ok_same undo (undo_of pid s.version s.page) answer e told ∙ ap (λ n. undo_of pid n s.page) v;
          }
      by_test s false was other told is = absurd (ok_err undo (Some s.version) answer e told)

      by : (o : Option Slot) → slots pid ≡ o → answer ≡ link_answer pid version o → slots' ≡ put_at slots pid (slot_linked link version next o) → Relinked link pid version next slots slots' undo
      by None was told is = absurd (ok_err undo None answer e told)
      by (Some s) was told is = by_test s (nat_eq s.version version) was refl told is

  -- it has not, and stays
  pub not_relinked : (present : Option ℕ) → answer ≡ Err present → answer ≡ link_answer pid version (slots pid) → slots' ≡ put_at slots pid (slot_linked link version next (slots pid)) → slots' ≡ slots
  not_relinked present e = by (slots pid) refl
    where
      by_test : (s : Slot) (b : Bool) → slots pid ≡ Some s → answer ≡ answer_by pid s b → slots' ≡ put_at slots pid (cond b (slot_at next (linked link s.page)) (Some s)) → slots' ≡ slots
      by_test s true was told is = absurd (ok_err (undo_of pid s.version s.page) present answer told e)
      by_test s false was told is = is ∙ same_put slots pid (Some s) was

      by : (o : Option Slot) → slots pid ≡ o → answer ≡ link_answer pid version o → slots' ≡ put_at slots pid (slot_linked link version next o) → slots' ≡ slots
      by None was told is = is ∙ same_put slots pid None was
      by (Some s) was told is = by_test s (nat_eq s.version version) was told is

-- the answer is the version that it has instead
pub told_other : (m : MemPages) (pid version : ℕ) (answer : Answer) (present : Option ℕ) → answer ≡ Err present → answer ≡ link_answer pid version (slots_of m.slots pid) → IsOther pid version (store_of m) present
told_other m pid version answer present e = by (slots_of m.slots pid) refl
  where
    by_test : (s : Slot) (b : Bool) → slots_of m.slots pid ≡ Some s → nat_eq s.version version ≡ b → answer ≡ answer_by pid s b → IsOther pid version (store_of m) present
    by_test s true was same told = absurd (ok_err (undo_of pid s.version s.page) present answer told e)
    by_test s false was other told = subst (IsOther pid version (store_of m)) (err_same (Some s.version) present answer told e) (has_other m pid version _ s refl was (eqb-false s.version version other))

    by : (o : Option Slot) → slots_of m.slots pid ≡ o → answer ≡ link_answer pid version o → IsOther pid version (store_of m) present
    by None was told = subst (IsOther pid version (store_of m)) (err_same None present answer told e) (has_none m pid version _ refl was)
    by (Some s) was told = by_test s (nat_eq s.version version) was refl told

pub changes_none : (change : Node → Node) (pid version : ℕ) (present : Option ℕ) (old mid new : Store) → mid ≡ old → IsOther pid version mid present → new ≡ mid → Changes change pid version old new (Err present)
changes_none change pid version present old mid new same other is = record { is = (is ∙ same, other.is ∙ ap (λ (s : Store). version_now s pid) same, other.other) }

-- ---- the entry of the log

by_fold : (P : Undo → Type 0) (pid before : ℕ) (page : Parts) → (is_full page ≡ true → P (UndoFold pid before page)) → (is_full page ≡ false → P (UndoLink pid before)) → P (undo_of pid before page)
by_fold P pid before page a b = elim (is_full page) as (λ t. is_full page ≡ t → P (cond t (UndoFold pid before page) (UndoLink pid before))) [ true ↦ a | false ↦ b ] refl

link_back : (slots slots' : ℕ → Option Slot) (roots : Key → Option ℕ) (g : Bool) (link : Link) (pid version next : ℕ) (undo : Undo) → Relinked link pid version next slots slots' undo →
    undone undo (with_slots roots g slots') ≡ with_slots roots g slots
link_back slots slots' roots g link pid version next undo h =
    let here : slots' pid ≡ slot_at next (linked link h.page) = ap (λ f. f pid) h.is ∙ put_here slots pid _ in
    let back : (x : Option Slot) → x ≡ slots pid → with_slots roots g (put_at slots' pid x) ≡ with_slots roots g slots = λ x e.
    ap (with_slots roots g) (ap (put_at slots' pid) e ∙ (ap (λ f. put_at f pid (slots pid)) h.is ∙ back_put slots pid _)) in
    subst (λ u. undone u (with_slots roots g slots') ≡ with_slots roots g slots) (sym h.told)
    (by_fold (λ u. undone u (with_slots roots g slots') ≡ with_slots roots g slots) pid version h.page
    (λ e. back (slot_at version h.page) (sym h.was))
    (λ e. back (slot_unlinked version (slots' pid)) (ap (slot_unlinked version) here ∙ (ap (slot_at version) (unlinked_linked link h.page e) ∙ sym h.was))))

link_told : (slots slots' : ℕ → Option Slot) (roots : Key → Option ℕ) (g : Bool) (link : Link) (pid version next : ℕ) (undo : Undo) (h : Relinked link pid version next slots slots' undo) →
    undoes undo (with_slots roots g slots') ≡ PageBecomes pid (Some (record { version = next; node = after_link link (node_of h.page) }))
link_told slots slots' roots g link pid version next undo h =
    let here : option_map page_of (slots' pid) ≡ Some (record { version = next; node = after_link link (node_of h.page) }) =
    ap (option_map page_of) (ap (λ f. f pid) h.is ∙ put_here slots pid _) ∙ ap (λ n. Some (record { version = next; node = n })) (node_linked link h.page) in
    let it = ap (PageBecomes pid) here in
    subst (λ u. undoes u (with_slots roots g slots') ≡ PageBecomes pid (Some (record { version = next; node = after_link link (node_of h.page) }))) (sym h.told)
    (by_fold (λ u. undoes u (with_slots roots g slots') ≡ PageBecomes pid (Some (record { version = next; node = after_link link (node_of h.page) }))) pid version h.page (λ e. it) (λ e. it))

link_commits : (slots slots' : ℕ → Option Slot) (roots : Key → Option ℕ) (g : Bool) (log log' : List Undo) (link : Link) (pid version next : ℕ) (undo : Undo) (n f : ℕ) (un : List ℕ) (mk : ℕ) (rc : Bool) (places places' : ℕ → Bool) (nv : ℕ) →
    (h : Relinked link pid version next slots slots' undo) → log' ≡ log ++ undo ∷ [] → places' ≡ places →
    meaning (with_slots roots g slots') log' (n + 1) f un mk rc places' nv ≡ after_action (PageBecomes pid (Some (record { version = next; node = after_link link (node_of h.page) }))) (meaning (with_slots roots g slots) log n f un mk rc places nv)
link_commits slots slots' roots g log log' link pid version next undo n f un mk rc places places' nv h l p =
    meaning_acted _ _ log log' undo _ n f un mk rc places places' nv l (link_back slots slots' roots g link pid version next undo h) (link_told slots slots' roots g link pid version next undo h) p

pub link_keeps : (slots slots' : ℕ → Option Slot) (roots : Key → Option ℕ) (g : Bool) (log log' : List Undo) (link : Link) (pid version next : ℕ) (undo : Undo) (places places' : ℕ → Bool) →
    Relinked link pid version next slots slots' undo → log' ≡ log ++ undo ∷ [] → places' ≡ places → places pid ≡ true →
    IsKept places (with_slots roots g slots) log → IsKept places' (with_slots roots g slots') log'
link_keeps slots slots' roots g log log' link pid version next undo places places' h l p k kept =
    let it : places' pid ≡ true = ap (λ f. f pid) p ∙ k in
    kept_more _ _ log log' undo places places' l (link_back slots slots' roots g link pid version next undo h) (λ q e. ap (λ f. f q) p ∙ e)
    (subst (λ u. has_place places' u ≡ true) (sym h.told) (by_fold (λ u. has_place places' u ≡ true) pid version h.page (λ e. it) (λ e. it))) kept

pub link_below : (nv : ℕ) (slots slots' : ℕ → Option Slot) (log log' : List Undo) (link : Link) (pid version : ℕ) (undo : Undo) → Relinked link pid version nv slots slots' undo → log' ≡ log ++ undo ∷ [] →
    AreBelow nv slots log → AreBelow (nv + 1) slots' log'
link_below nv slots slots' log log' link pid version undo h l b =
    let k = later nv slots log b in
    let it : nat_lt version (nv + 1) ≡ true = ap (slot_given (nv + 1)) (sym h.was) ∙ k.here pid in
    record {
      here = here_put (nv + 1) slots slots' pid (slot_at nv (linked link h.page)) h.is (now_below nv) k.here;
      in_log = rw l (all_push (undo_given (nv + 1)) log undo k.in_log
          (subst (λ u. undo_given (nv + 1) u ≡ true) (sym h.told) (by_fold (λ u. undo_given (nv + 1) u ≡ true) pid version h.page (λ e. it) (λ e. it))));
    }

pub links : (m : MemPages) (slots' : ℕ → Option Slot) (log' : List Undo) (link : Link) (pid version : ℕ) (undo : Undo) (places places' : ℕ → Bool) (old : Store) (roots : Key → Option ℕ) (n f : ℕ) (un : List ℕ) (mk : ℕ) (rc : Bool) (nv : ℕ) →
    store_of m ≡ meaning (with_slots roots m.in_group (slots_of m.slots)) m.log.items n f un mk rc places nv →
    store_of m ≡ old → (h : Relinked link pid version nv (slots_of m.slots) slots' undo) → log' ≡ m.log.items ++ undo ∷ [] → places' ≡ places →
    Changes (after_link link) pid version old (meaning (with_slots roots m.in_group slots') log' (n + 1) f un mk rc places' (nv + 1)) (Ok nv)
links m slots' log' link pid version undo places places' old roots n f un mk rc nv is same h l p =
    changes (after_link link) pid version nv old (store_of m) _ (record { version = version; node = node_of h.page }) (after_link link (node_of h.page)) same (has_version m pid version _ _ refl h.was refl) (sym (pages_here m pid ∙ ap (option_map page_of) h.was)) refl
    (acts_at _ (store_of m) (meaning (with_slots roots m.in_group (slots_of m.slots)) m.log.items n f un mk rc places nv) _ nv (sym is) refl
    (link_commits (slots_of m.slots) slots' roots m.in_group m.log.items log' link pid version nv undo n f un mk rc places places' (nv + 1) h l p))

-- versions stay below the next one where a change is taken back
back_given : (next version : ℕ) (o : Option Slot) → nat_lt version next ≡ true → slot_given next (slot_unlinked version o) ≡ true
back_given next version None e = refl
back_given next version (Some s) e = e

pub below_link : (next : ℕ) (s s' : ℕ → Option Slot) (u : Undo) (pid version : ℕ) → u ≡ UndoLink pid version → s' ≡ put_at s pid (slot_unlinked version (s pid)) →
    ((p : ℕ) → slot_given next (s p) ≡ true) → undo_given next u ≡ true → (p : ℕ) → slot_given next (s' p) ≡ true
below_link next s s' u pid version is e h k = here_put next s s' pid (slot_unlinked version (s pid)) e (back_given next version (s pid) (ap (undo_given next) (sym is) ∙ k)) h

pub below_fold : (next : ℕ) (s s' : ℕ → Option Slot) (u : Undo) (pid version : ℕ) (page : Parts) → u ≡ UndoFold pid version page → s' ≡ put_at s pid (slot_at version page) →
    ((p : ℕ) → slot_given next (s p) ≡ true) → undo_given next u ≡ true → (p : ℕ) → slot_given next (s' p) ≡ true
below_fold next s s' u pid version page is e h k = here_put next s s' pid (slot_at version page) e (ap (undo_given next) (sym is) ∙ k) h
