-- `access_hierarchy::loop_host` meets its contract: what `find` says of the hosts, one by one, is what the rules say of them.
use native.Mathlib.Omega.{arith}
use borrow.Author.Tests.{tests}
use mathlib.Core.Path.{◌≡◌}
use mathlib.Core.Bool.{true, false}
use Rattle.std.proofs.Common.{rules}
use Rattle.std.proofs.lemmas.Iterator.{first_from_find, YieldsList-from_map, YieldsList-from_range}
use Rattle.access_hierarchy.proofs.Tables.{host_at, told_on, found_is}
use Rattle.access_hierarchy.proofs.loops.loop_host.Goals as goal

pub returns : goal.returns
returns c =
    let bytes = c.args.bytes.now in
    let own = told_on c.fill.new.above in
    found_is bytes (λ k. (c.type_inv.bytes k).fits) c.fill.ensures _
    (first_from_find _ _ _ (λ h. own h ≡ true) (λ h. own h ≡ false) c.find.ensures.ran
    (YieldsList-from_map _ (host_at bytes) (YieldsList-from_range 0 32 32 c.map.ensures.source (omega arith)) c.map.ensures.closure (λ x r q k. search rules))
    (λ x q k. search (rules, tests)) (λ x q k. search (rules, tests)))
