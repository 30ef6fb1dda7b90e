-- Changes that make of nothing what a store is now.
use Rattle.std.proofs.Common.{Bool, length, length-append, ◌+◌, ◌≡◌, ◌<◌, ℕ, nat_eq, nat_lt, nat_le, cond, true, false, List, [], ◌∷◌, ◌++◌, Option, Some, None, refl, sym, ◌∙◌, ap, subst, arith, append_assoc}
use Rattle.std.proofs.Math.Path.{fun_ext}
use Rattle.std.proofs.lemmas.Bool.Decides.{nat_tests}
use Rattle.std.proofs.lemmas.Bool.{eqb-true}
use Rattle.std.proofs.lemmas.List.{append-nil}
use Rattle.std.proofs.lemmas.List.Elements.{All-nil, All-push}
use Rattle.std.proofs.lemmas.Map.Text.{is_eq-slice_cmp}
use Rattle.std.specs.Prelude.{Result, Ok, Err, OnOk, map}
use Rattle.std.specs.List.{flat_map}
use Rattle.std.specs.Str.{bytes_eq}
use Rattle.std.specs.Ordering.{eq_by_cmp}
use Rattle.std.specs.FinMap.Entries.{find}
use Rattle.sled_nodes.specs.Order.{Key, key_cmp}
use Rattle.sled_nodes.specs.declared.node.Node.{Node}
use Rattle.sled_store.specs.declared.page.Page.{Page}
use Rattle.sled_store.specs.State.{State}
use Rattle.sled_store.specs.Store.{Store, now, AreGiven, IsRoots, view_of}
use Rattle.sled_store.specs.declared.page.View.{View}
use Rattle.sled_store.specs.theory.Facts.{fresh_page}
use Rattle.sled_bytes.specs.declared.change.Change.{Change}
use Rattle.sled_bytes.specs.declared.change.Change.TheVariants.{Given, Rooted, Marked, Limited}
use Rattle.sled_bytes.specs.Spelling.{change_bytes, FitsChange}
use Rattle.sled_files.specs.Change.{Durable, nothing_yet, changed}
use Rattle.sled_files.specs.Snapshot.{rooted_as, changes_length}
use Rattle.sled_files.specs.theory.Snapshot.{Makes, with_page, only, pages_below, pages_rooted, durable_now, page_length}
use Rattle.sled_files.specs.theory.Spelled.{WereGiven}
use Rattle.sled_files.proofs.Adding.{changed_both}
use Rattle.sled_files.proofs.Grows.{spells_none, spells_more}

-- with the bytes of a change more
pub makes_more : {store : Store} {before after : List ℕ} {d : Durable} (c : Change) → Makes store before d → FitsChange c → WereGiven store c → after ≡ before ++ change_bytes c → Makes store after (changed c d)
makes_more {store} {before} {after} {d} c m fits given is = subst (λ (l : List ℕ). Makes store l (changed c d)) (sym is) (record {
  changes = m.changes ++ c ∷ [];
  spells = spells_more m.spells c fits;
  makes = changed_both m.changes (c ∷ []) nothing_yet ∙ ap (changed c) m.makes;
  given = All-push (WereGiven store) m.changes c m.given given;
})

pub makes_same : {store : Store} {bytes : List ℕ} {d e : Durable} → d ≡ e → Makes store bytes d → Makes store bytes e
makes_same {store} {bytes} is m = subst (Makes store bytes) is m

pub makes_as : {store : Store} {bytes other : List ℕ} {d : Durable} → other ≡ bytes → Makes store bytes d → Makes store other d
makes_as {store} {bytes} {other} {d} is m = subst (λ (l : List ℕ). Makes store l d) (sym is) m

-- a page that is there
makes_page : {store : Store} {before after : List ℕ} {d : Durable} (pid : ℕ) (g : Page) → AreGiven store → (now store).pages pid ≡ Some g → Makes store before d → FitsChange (Given pid g.version g.node) → after ≡ before ++ change_bytes (Given pid g.version g.node)
    → Makes store after (with_page pid ((now store).pages pid) d)
makes_page {store} {before} {after} {d} pid g given there m fits is =
    subst (λ (o : Option Page). Makes store after (with_page pid o d)) (sym there) (makes_more (Given pid g.version g.node) m fits (given.pid pid g there, given.version pid g there) is)

-- a page as it was read
module _ (pid : ℕ) where
  seen : (page : Option Page) (v : View) → Some v ≡ view_of pid page → page ≡ Some (record { version = v.version; node = v.node })
  seen None v is = absurd (cc)
  seen (Some g) v is = ap (λ (w : View). Some (record { version = w.version; node = w.node })) (same (record { pid = pid; version = g.version; node = g.node }) v is)
    where
      same : (w v : View) → Some v ≡ Some w → w ≡ v
      same w v e = cc

  missing : (page : Option Page) → None ≡ view_of pid page → page ≡ None
  missing None is = refl
  missing (Some g) is = absurd (cc)

module _ {A E : Type 0} {P Q R : Type 0} where
  on_both : (r : Result A E) → OnOk r P → OnOk r Q → (P → Q → R) → OnOk r R
  on_both (Ok x) p q f = f p q
  on_both (Err e) p q f = tt

-- what spells a page that was read
pub spells_page : {E : Type 0} (store : Store) (before after : List ℕ) (pid : ℕ) (v : View) (node : Node) (spelled : Result (Unit {0}) E) → AreGiven store → Some v ≡ view_of pid ((now store).pages pid) → node ≡ v.node → OnOk spelled (after ≡ before ++ change_bytes (Given pid v.version node)) → OnOk spelled (FitsChange (Given pid v.version node))
    → OnOk spelled ((d : Durable) → Makes store before d → Makes store after (with_page pid ((now store).pages pid) d))
spells_page store before after pid v node spelled given is same bytes fits =
    on_both spelled bytes fits (λ b f d m. makes_page pid (record { version = v.version; node = node }) given (seen pid ((now store).pages pid) v is ∙ ap (λ (n : Node). Some (record { version = v.version; node = n })) (sym same)) m f b)

-- and how much longer that is
pub sizes_page : {E : Type 0} (store : Store) (before after : List ℕ) (pid : ℕ) (v : View) (node : Node) (spelled : Result (Unit {0}) E) → Some v ≡ view_of pid ((now store).pages pid) → node ≡ v.node → OnOk spelled (after ≡ before ++ change_bytes (Given pid v.version node))
    → OnOk spelled (length after ≡ length before + page_length pid ((now store).pages pid))
sizes_page store before after pid v node spelled is same bytes =
    on_both spelled bytes bytes (λ b _. ap length b ∙ length-append before (change_bytes (Given pid v.version node)) ∙ ap (λ (o : Option Page). length before + page_length pid o) (sym (seen pid ((now store).pages pid) v is ∙ ap (λ (n : Node). Some (record { version = v.version; node = n })) (sym same))))

pub sizes_no_page : (pid : ℕ) (page : Option Page) (n : ℕ) → None ≡ view_of pid page → n ≡ n + page_length pid page
sizes_no_page pid page n is = subst (λ (o : Option Page). n ≡ n + page_length pid o) (sym (missing pid page is)) (omega arith)

pub spells_no_page : {store : Store} {bytes : List ℕ} (pid : ℕ) (page : Option Page) → None ≡ view_of pid page → (d : Durable) → Makes store bytes d → Makes store bytes (with_page pid page d)
spells_no_page {store} {bytes} pid page is d m = subst (λ (o : Option Page). Makes store bytes (with_page pid o d)) (sym (missing pid page is)) m

-- pages below a number, and the one of it
module _ (f : ℕ → Option Page) where
  abbrev below : ℕ → ℕ → Option Page
  below n p = cond (nat_lt p n) (f p) None

  same_below : (n p : ℕ) → nat_eq p n ≡ false → nat_lt p n ≡ nat_lt p (n + 1)
  same_below n p e = grind (arith, nat_tests)

  here_below : (n p : ℕ) → nat_eq p n ≡ true → nat_lt p (n + 1) ≡ true
  here_below n p e = grind (arith, nat_tests)

  one_more : (n p : ℕ) → cond (nat_eq p n) (f n) (below n p) ≡ below (n + 1) p
  one_more n p = go (nat_eq p n) refl
    where
      go : (b : Bool) → nat_eq p n ≡ b → cond b (f n) (below n p) ≡ below (n + 1) p
      go true e = ap f (sym (eqb-true p n e)) ∙ sym (ap (λ b. cond b (f p) None) (here_below n p e))
      go false e = ap (λ b. cond b (f p) None) (same_below n p e)

  -- there is none below at the number itself
  none_here : (n p : ℕ) → f n ≡ None → below n p ≡ cond (nat_eq p n) (f n) (below n p)
  none_here n p none = go (nat_eq p n) refl
    where
      not_below : nat_eq p n ≡ true → nat_lt p n ≡ false
      not_below e = grind (arith, nat_tests)

      go : (b : Bool) → nat_eq p n ≡ b → below n p ≡ cond b (f n) (below n p)
      go true e = ap (λ b. cond b (f p) None) (not_below e) ∙ sym none
      go false e = refl

pub page_more : (s : State) (n : ℕ) → with_page n (s.pages n) (pages_below s n) ≡ pages_below s (n + 1)
page_more s n = go (s.pages n) refl
  where
    go : (o : Option Page) → s.pages n ≡ o → with_page n o (pages_below s n) ≡ pages_below s (n + 1)
    go None e = ap (λ (f : ℕ → Option Page). only f (λ _. None)) (fun_ext (λ p. none_here s.pages n p e ∙ one_more s.pages n p))
    go (Some g) e = ap (λ (f : ℕ → Option Page). only f (λ _. None)) (fun_ext (λ p. ap (λ (o : Option Page). cond (nat_eq p n) o (below s.pages n p)) (sym e) ∙ one_more s.pages n p))

-- of a store whose page numbers that were given are those up to the greatest, there are no others
pub pages_all : (s : Store) (greatest : ℕ) → AreGiven s → ((p : ℕ) → 0 < p → s.pids p ≡ nat_le p greatest) → pages_below (now s) (greatest + 1) ≡ only (now s).pages (λ _. None)
pages_all s greatest given pids = ap (λ (f : ℕ → Option Page). only f (λ _. None)) (fun_ext (λ p. go p (nat_lt p (greatest + 1)) refl))
  where
    above : (p : ℕ) → nat_lt p (greatest + 1) ≡ false → 0 < p
    above p e = grind (arith, nat_tests)

    further : (p : ℕ) → nat_lt p (greatest + 1) ≡ false → nat_le p greatest ≡ false
    further p e = grind (arith, nat_tests)

    go : (p : ℕ) (b : Bool) → nat_lt p (greatest + 1) ≡ b → cond b ((now s).pages p) None ≡ (now s).pages p
    go p true e = refl
    go p false e = sym (fresh_page s p given (pids p (above p e) ∙ further p e))

-- no page is below 0
pub none_below : (s : State) → pages_below s 0 ≡ nothing_yet
none_below s = ap (λ (f : ℕ → Option Page). only f (λ _. None)) (fun_ext (λ p. go p (nat_lt p 0) refl))
  where
    go : (p : ℕ) (b : Bool) → nat_lt p 0 ≡ b → cond b (s.pages p) None ≡ None
    go p true e = absurd (grind (arith, nat_tests))
    go p false e = refl

pub makes_nothing : {store : Store} {bytes : List ℕ} (s : State) → bytes ≡ [] → Makes store bytes (pages_below s 0)
makes_nothing {store} s is = makes_same (sym (none_below s)) (makes_as is (record { changes = []; spells = spells_none; makes = refl; given = All-nil (WereGiven store) }))

-- two names tie where they are one
module _ (q name : Key) where
  tie : eq_by_cmp key_cmp q name ≡ bytes_eq q name
  unfolding key_cmp
  tie = is_eq-slice_cmp q name

-- a root more, before those that were made
pub root_more : (s : State) (done : List (Key × ℕ)) (name : Key) (pid : ℕ) → changed (Rooted name (Some pid)) (pages_rooted s done) ≡ pages_rooted s ((name, pid) ∷ done)
root_more s done name pid = ap (only s.pages) (fun_ext (λ q. ap (λ b. cond b (Some pid) (find key_cmp q done)) (sym (tie q name))))

pub roots_all : (s : State) (roots : List (Key × ℕ)) → IsRoots s roots → pages_rooted s roots ≡ only s.pages s.roots
roots_all s roots r = ap (only s.pages) (fun_ext (λ name. sym (r.is name)))

-- while roots are added: those that were, and those that are left
pub record Roots (store : Store) (before : List ℕ) (left : List (Key × ℕ)) (bytes : List ℕ) : Type 0 where
  pub all : List (Key × ℕ)
  pub is : IsRoots (now store) all
  pub done : List (Key × ℕ)
  pub are : left ++ done ≡ all
  pub made : Makes store before (only (now store).pages (λ _. None)) → Makes store bytes (pages_rooted (now store) done)
  pub long : length bytes ≡ length before + changes_length (map rooted_as done)

pub roots_none : {store : Store} {all : List (Key × ℕ)} (bytes : List ℕ) → IsRoots (now store) all → Roots store bytes all bytes
roots_none {store} {all} bytes is = record { all = all; is = is; done = []; are = append-nil all; made = λ m. m; long = omega arith }

root_length : (after bytes before c done all : ℕ) → after ≡ bytes + c → bytes ≡ before + done → all ≡ c + done → after ≡ before + all
root_length after bytes before c done all first second third = omega (arith, first, second, third)

pub roots_push : {store : Store} {before bytes after : List ℕ} {left rest : List (Key × ℕ)} (key name : Key) (pid : ℕ) → key ≡ name → Roots store before left bytes → left ≡ rest ++ (key, pid) ∷ [] → FitsChange (Rooted name (Some pid)) → after ≡ bytes ++ change_bytes (Rooted name (Some pid))
    → Roots store before rest after
roots_push {store} {before} {bytes} {after} {left} {rest} key name pid same r is fits more = record {
  all = r.all;
  is = r.is;
  done = (name, pid) ∷ r.done;
  are = sym (append_assoc rest ((name, pid) ∷ []) r.done) ∙ ap (λ (l : List (Key × ℕ)). l ++ r.done) (ap (λ (k : Key). rest ++ (k, pid) ∷ []) (sym same) ∙ sym is) ∙ r.are;
  made = λ m. makes_same (root_more (now store) r.done name pid) (makes_more (Rooted name (Some pid)) (r.made m) fits tt more);
  long = root_length _ _ _ _ _ _ (ap length more ∙ length-append bytes (change_bytes (Rooted name (Some pid)))) r.long (length-append (change_bytes (Rooted name (Some pid))) (flat_map change_bytes (map rooted_as r.done)));
}

pub roots_done : {store : Store} {before bytes : List ℕ} {left : List (Key × ℕ)} → Roots store before left bytes → left ≡ [] → Makes store before (only (now store).pages (λ _. None)) → Makes store bytes (only (now store).pages (now store).roots)
roots_done {store} {before} {bytes} {left} r none m =
    makes_same (ap (pages_rooted (now store)) (ap (λ (l : List (Key × ℕ)). l ++ r.done) (sym none) ∙ r.are) ∙ roots_all (now store) r.all r.is) (r.made m)

-- the mark and the limits are set at last
pub makes_durable : {one two three : List ℕ} (s : Store) (mark pids versions : ℕ) → Makes s one (only (now s).pages (now s).roots) → FitsChange (Marked mark) → two ≡ one ++ change_bytes (Marked mark)
    → FitsChange (Limited pids versions) → three ≡ two ++ change_bytes (Limited pids versions) → Makes s three (durable_now s mark pids versions)
makes_durable s mark pids versions m fits is also more = makes_more (Limited pids versions) (makes_more (Marked mark) m fits tt is) also tt more
