-- How many bytes the changes take that make of nothing what a store is now.
use Rattle.std.proofs.Common.{arith, ◌+◌, ◌≡◌, ℕ, nat_eq, nat_lt, cond, false, List, [], ◌∷◌, ◌++◌, length, Option, Some, None, refl, sym, ◌∙◌, ap, subst, length-append}
use Rattle.std.specs.Prelude.{map}
use Rattle.std.specs.List.{flat_map}
use Rattle.std.specs.Cmp.{nat_cmp_total, unsigned_tied}
use Rattle.std.specs.Ordering.{nat_cmp, is_eq}
use Rattle.std.specs.declared.cmp.Ordering.TheVariants.{Less, Equal, Greater}
use Rattle.std.specs.FinMap.Entries.{find, put, by_order, is_sorted-put, find-put}
use Rattle.std.proofs.lemmas.Bool.Decides.{nat_tests}
use Rattle.std.proofs.lemmas.Grind.{flat_map-append}
use Rattle.sled_nodes.specs.Order.{Key}
use Rattle.sled_nodes.proofs.Basics.{true_of, of_true}
use Rattle.sled_store.specs.declared.page.Page.{Page}
use Rattle.sled_store.specs.State.{State}
use Rattle.sled_store.specs.Store.{Store, now}
use Rattle.sled_bytes.specs.declared.change.Change.{Change}
use Rattle.sled_bytes.specs.declared.change.Change.TheVariants.{Marked, Limited}
use Rattle.sled_bytes.specs.Spelling.{change_bytes}
use Rattle.sled_files.specs.Change.{Durable}
use Rattle.sled_files.specs.Snapshot.{given_as, rooted_as, changes_length, IsSnapshot}
use Rattle.sled_files.specs.theory.Snapshot.{with_page, only, pages_below, page_length, GivesPages, SetsRoots}
use Rattle.sled_files.proofs.Snapping.{Roots, none_below, page_more}

-- one change more, and more changes
longer : (c : Change) (cs : List Change) → changes_length (c ∷ cs) ≡ length (change_bytes c) + changes_length cs
longer c cs = length-append (change_bytes c) (flat_map change_bytes cs)

both : (front rest : List Change) → changes_length (front ++ rest) ≡ changes_length front + changes_length rest
both front rest = ap length (flat_map-append change_bytes front rest) ∙ length-append (flat_map change_bytes front) (flat_map change_bytes rest)

first_of : (a b c : ℕ) → a ≡ b + c → a ≡ c + b
first_of a b c is = omega (arith, is)

deeper : (a b c d e f : ℕ) → a ≡ b + c → d ≡ b + e → c ≡ e + f → a ≡ d + f
deeper a b c d e f first second more = omega (arith, first, second, more)

-- a page that was not there
given_more : (pid : ℕ) (g : Page) (pages : List (ℕ × Page)) → find nat_cmp pid pages ≡ None → changes_length (map given_as (put nat_cmp pid g pages)) ≡ changes_length (map given_as pages) + page_length pid (Some g)
given_more pid g [] none = first_of _ _ _ (longer (given_as (pid, g)) [])
given_more pid g (e ∷ es) none =
    elim (nat_cmp pid e.0) as (λ o. cond (is_eq o) (Some e.1) (find nat_cmp pid es) ≡ None → changes_length (map given_as (by_order o ((pid, g) ∷ e ∷ es) ((e.0, g) ∷ es) (e ∷ put nat_cmp pid g es))) ≡ changes_length (map given_as (e ∷ es)) + page_length pid (Some g)) [
      | Less ↦ λ n. first_of _ _ _ (longer (given_as (pid, g)) (map given_as (e ∷ es)))
      | Equal ↦ λ n. absurd (cc)
      | Greater ↦ λ n. deeper _ _ _ _ _ _ (longer (given_as e) (map given_as (put nat_cmp pid g es))) (longer (given_as e) (map given_as es)) (given_more pid g es n)
    ] none

-- no page is below 0
pub sized_none : {bytes : List ℕ} (s : State) → bytes ≡ [] → GivesPages (pages_below s 0).state (length bytes)
sized_none s is = record { pages = []; are = record { ascends = refl; is = λ pid. ap (λ (d : Durable). d.state.pages pid) (none_below s) }; is = ap length is }

-- the pages below a number, and the one of it
pub sized_more : (s : State) (n : ℕ) (before after : ℕ) → GivesPages (pages_below s n).state before → after ≡ before + page_length n (s.pages n) → GivesPages (pages_below s (n + 1)).state after
sized_more s n before after given more = subst (λ (d : Durable). GivesPages d.state after) (page_more s n) (go (s.pages n) more)
  where
    here : nat_lt n n ≡ false
    here = grind (arith, nat_tests)

    new : find nat_cmp n given.pages ≡ None
    new = sym (given.are.is n) ∙ ap (λ b. cond b (s.pages n) None) here

    go : (o : Option Page) → after ≡ before + page_length n o → GivesPages (with_page n o (pages_below s n)).state after
    go None long = record { pages = given.pages; are = given.are; is = omega (arith, long) ∙ given.is }
    go (Some g) long = record {
      pages = put nat_cmp n g given.pages;
      are = record {
        ascends = true_of _ (is_sorted-put nat_cmp nat_cmp_total n g given.pages (of_true _ given.are.ascends));
        is = λ pid. ap (cond (nat_eq pid n) (Some g)) (given.are.is pid) ∙ ap (λ b. cond b (Some g) (find nat_cmp pid given.pages)) (sym (unsigned_tied pid n)) ∙ sym (find-put nat_cmp nat_cmp_total pid n g given.pages);
      };
      is = long ∙ ap (λ (k : ℕ). k + page_length n (Some g)) given.is ∙ sym (given_more n g given.pages new);
    }

-- those of all numbers are all
pub sized_all : {long : ℕ} (s : State) {d : Durable} → d ≡ only s.pages (λ _. None) → GivesPages d.state long → GivesPages s long
sized_all {long} s is given =
    let all : GivesPages (only s.pages (λ _. None)).state long = subst (λ (e : Durable). GivesPages e.state long) is given in
    record { pages = all.pages; are = record { ascends = all.are.ascends; is = all.are.is }; is = all.is }

-- once all roots were added
pub sized_roots : {store : Store} {before bytes : List ℕ} {left : List (Key × ℕ)} → Roots store before left bytes → left ≡ [] → SetsRoots (now store) (length before) (length bytes)
sized_roots {store} {before} {bytes} {left} r none = record {
  roots = r.all;
  are = r.is;
  is = r.long ∙ ap (λ (l : List (Key × ℕ)). length before + changes_length (map rooted_as l)) (ap (λ (l : List (Key × ℕ)). l ++ r.done) (sym none) ∙ r.are);
}

adds_up : (one two three four p r pr m l rest last all : ℕ) → one ≡ p → two ≡ one + r → three ≡ two + m → four ≡ three + l → last ≡ l + 0 → rest ≡ m + last → pr ≡ p + r → all ≡ pr + rest → four ≡ all
adds_up one two three four p r pr m l rest last all a b c d e f g h = omega (arith, a, b, c, d, e, f, g, h)

-- the pages, the roots, and then the mark and the limits
pub sized : (one two : List ℕ) {three four : List ℕ} (s : State) (mark pids versions : ℕ) → GivesPages s (length one) → SetsRoots s (length one) (length two) → three ≡ two ++ change_bytes (Marked mark) → four ≡ three ++ change_bytes (Limited pids versions) → IsSnapshot s mark (record { pids = pids; versions = versions }) (length four)
sized one two {three} {four} s mark pids versions given set marked limited =
    let last : List Change = Limited pids versions ∷ [] in
    let rest : List Change = Marked mark ∷ last in
    let front : List Change = map given_as given.pages ++ map rooted_as set.roots in
    record {
      pages = given.pages;
      all_pages = given.are;
      roots = set.roots;
      all_roots = set.are;
      is = adds_up (length one) (length two) (length three) (length four) _ _ (changes_length front) (length (change_bytes (Marked mark))) (length (change_bytes (Limited pids versions))) (changes_length rest) (changes_length last) _ given.is set.is
          (ap length marked ∙ length-append two (change_bytes (Marked mark)))
          (ap length limited ∙ length-append three (change_bytes (Limited pids versions)))
          (longer (Limited pids versions) [])
          (longer (Marked mark) last)
          (both (map given_as given.pages) (map rooted_as set.roots))
          (both front rest);
    }
