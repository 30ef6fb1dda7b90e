use Rattle.std.proofs.Common.{◌≡◌, ◌<◌, ◌^◌, ◌%◌, ℕ, sym, ◌∙◌, ap, rules, arith}
use Rattle.std.specs.Hash.DefaultHasher as sip
use Rattle.std.proofs.Math.Nat.{mod-eq_of_lt}
use Rattle.sled_log.specs.Digest.{digest}
use Rattle.sled_log.proofs.digest.digest_of.Goals as goal

-- what the hasher answers fits 64 bits
pub returns : goal.returns
unfolding digest
returns c =
    let is : c.finish.result ≡ sip.finish (sip.write sip.initial c.args.bytes.now) = search rules in
    let fits : c.finish.result < 2 ^ 64 = omega arith in
    sym (mod-eq_of_lt fits) ∙ ap (λ (n : ℕ). n % 2 ^ 64) is
