-- Sessions of the program, one after the other.
use Rattle.std.proofs.Common.{◌≡◌, ℕ, Bool, true, false, List, [], ◌++◌, Option, IfSome, codes, refl, ap, ◌∙◌, subst, sym}
use Rattle.std.proofs.lemmas.Option.{IfSome_then}
use Rattle.std.specs.Io.KnownBytes.{Keeps}
use Rattle.sled_store.specs.Crash.{Crashes}
use Rattle.sled_pages.specs.Memory.{store_of, flush_number_of, empty_store}
use Rattle.sled_store.specs.Store.{Store}
use Rattle.sled_pages.specs.declared.memory.MemPages.{MemPages}
use Rattle.sled_model.specs.State.{default_name}
use Rattle.sled.specs.Calls.{IsHandle}
use Rattle.sled.specs.Opens.{Opens}
use Rattle.sled.specs.Operators.{without_operators}
use Rattle.sled.specs.Values.{DbValue}
use Rattle.sled.proofs.Operating.{bare_opens}
use Rattle.line_words.specs.Print.{Prints}
use Rattle.line_sessions.specs.Serve.{lines_of, no_meaning, recovered_text, OpensSession, ToTheEnd, ToABadLine, ToACrash, Served}
use Rattle.line_sessions.specs.theory.Serve.{LivesOn, LivedFrom, ServesOn, ServesFrom}
use Rattle.line_sessions.specs.Serve.{Place}
use Rattle.line_sessions.specs.declared.operator.NoOperator.{NoOperator}
use Rattle.line_sessions.specs.declared.lines.End.{End}
use Rattle.line_sessions.specs.declared.lines.End.TheVariants as end
use Rattle.line_sessions.specs.declared.session.Session.{Session}
use Rattle.line_sessions.proofs.Printing.{prints_then, prints_kept}

-- a session that lived over these lines, after the first thing that it printed
pub lived_from : (before : Store) (s last : Session MemPages NoOperator) (here : Place) (held : Option (List ℕ)) (gathered : List ℕ) (e : End) (there : Place) → OpensSession before s → Prints here.held here.gathered held gathered (recovered_text before.recovered)
    → IfSome here.left (LivesOn store_of flush_number_of no_meaning s (record { number = here.number; left = here.left; held = held; gathered = gathered }) e last there)
    → LivedFrom before here e (store_of last.machine.db.pages) there
lived_from before s last here held gathered e there opens first lives = IfSome_then here.left lives (λ text on. record {
  texts = recovered_text before.recovered ++ on.texts;
  rest = on.rest;
  lived = record { first = s; last = last; opens = opens; texts = on.texts; lives = on.lives; is = refl; left = refl };
  left = on.left;
  prints = prints_then _ _ _ _ _ _ _ _ first on.prints;
})

-- .. over what was opened, and what it left
pub lived : {B : Type 0} (before : Store) (db : DbValue MemPages B) (d out : DbValue MemPages NoOperator) (s last : Session MemPages NoOperator) (here : Place) (held : Option (List ℕ)) (gathered : List ℕ) (e : End) (there : Place) (left : MemPages)
    → Opens store_of before (codes "sledrun") db → d ≡ without_operators db → s.machine.db ≡ d → IsHandle d default_name s.tree → s.machine.flights ≡ [] → s.machine.slots_given ≡ 0 → s.slots.items ≡ []
    → Prints here.held here.gathered held gathered (recovered_text (store_of s.machine.db.pages).recovered)
    → IfSome here.left (LivesOn store_of flush_number_of no_meaning s (record { number = here.number; left = here.left; held = held; gathered = gathered }) e last there)
    → out ≡ last.machine.db → left ≡ out.pages → LivedFrom before here e (store_of left) there
lived before db d out s last here held gathered e there left opens without same tree flights given slots first lives taken pages =
    let over : Opens store_of before (codes "sledrun") s.machine.db = subst (λ (z : DbValue MemPages NoOperator). Opens store_of before (codes "sledrun") z) (sym (same ∙ without)) (bare_opens store_of before (codes "sledrun") db opens) in
    subst (λ (z : Store). LivedFrom before here e z there) (sym (ap store_of (pages ∙ ap (λ (z : DbValue MemPages NoOperator). z.pages) taken)))
    (lived_from before s last here held gathered e there
    (record { opens = over; tree = subst (λ (z : DbValue MemPages NoOperator). IsHandle z default_name s.tree) (sym same) tree; flights = flights; given = given; slots = slots })
    (subst (λ r. Prints here.held here.gathered held gathered (recovered_text r)) over.recovered first)
    lives)

-- the last session ends with the lines
pub serves_end : (before after : Store) (here there : Place) → LivedFrom before here end.NoLine after there → ServesFrom before here true there
serves_end before after here there lived = IfSome_then here.left lived (λ text on. record { texts = on.texts; serves = ToTheEnd on.lived; prints = on.prints })

-- .. or at one that cannot be read
pub serves_bad : (before after : Store) (here there : Place) → LivedFrom before here end.BadLine after there → ServesFrom before here false there
serves_bad before after here there lived = IfSome_then here.left lived (λ text on. record { texts = on.texts; serves = ToABadLine on.lived; prints = on.prints })

-- a crash ends a session, and others follow over what it left
pub serves_crash : (keep : ℕ) (before after next : Store) (here mid there : Place) (read : Bool) → LivedFrom before here (end.Crash keep) after mid → Crashes keep after next → ServesFrom next mid read there → ServesFrom before here read there
serves_crash keep before after next here mid there read lived crashes others = IfSome_then here.left lived (λ text on.
    let more : ServesOn next mid read there on.rest = subst (λ o. IfSome o (ServesOn next mid read there)) on.left others in
    record { texts = on.texts ++ more.texts; serves = ToACrash on.lived crashes more.serves; prints = prints_then _ _ _ _ _ _ _ _ on.prints more.prints })

-- all that was printed is written
pub served : (left held : Option (List ℕ)) (gathered : List ℕ) (there : Place) (held_then : Option (List ℕ)) (read : Bool) → gathered ≡ [] → there.gathered ≡ [] → Keeps there.held held_then
    → ServesFrom empty_store (record { number = 0; left = left; held = held; gathered = gathered }) read there → IfSome left (λ text. Served text held held_then read)
served left held gathered there held_then read none written keeps serves = IfSome_then left serves (λ text on. record {
  printed = on.texts ++ [];
  serves = subst (λ z. Rattle.line_sessions.specs.Serve.Serves 0 empty_store (lines_of text) z read) (sym (Rattle.std.proofs.Common.append-nil on.texts)) on.serves;
  prints = subst (λ g. Prints held g held_then [] (on.texts ++ [])) none (prints_then _ _ _ _ _ _ _ _ on.prints (prints_kept _ _ _ _ keeps (sym written)));
})
