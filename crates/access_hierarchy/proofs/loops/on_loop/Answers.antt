-- `access_hierarchy::on_loop` meets its contract. The loop's invariant: what is left to follow decides.
use Prim.Native.Nat.{◌+◌, ◌-◌}
use mathlib.Core.Path.{◌≡◌, refl, sym, ◌∙◌}
use native.Mathlib.Omega.{arith}
use Rattle.rules.specs.Hierarchy.{meets}
use Rattle.access_hierarchy.proofs.Tables.{meets-end, meets-here, meets_on}
use Rattle.access_hierarchy.proofs.loops.on_loop.Goals as goal

pub loop-init : goal.loop-init
loop-init c = refl

pub returns-then-x-eq0 : goal.returns-then-x-eq0
returns-then-x-eq0 c = sym (c.loop.invariant ∙ meets-end _ _ (32 - c.loop.counter) c.loop.x c.if-x-eq0.true)

pub returns-then-x-host : goal.returns-then-x-host
returns-then-x-host c =
    sym (c.loop.invariant ∙ meets-here _ _ (32 - c.loop.counter) c.loop.x (32 - (c.loop.counter + 1)) (omega arith) c.if-x-eq0.false c.if-x-host.true)

pub loop-preserved : goal.loop-preserved
loop-preserved c =
    c.loop.invariant ∙ meets_on _ _ (32 - c.loop.counter) c.loop.x (32 - (c.loop.counter + 1)) (omega arith) c.if-x-eq0.false c.if-x-host.false

pub returns : goal.returns
unfolding meets
returns c =
    let all : c.loop.counter ≡ 32 = omega arith in sym (c.loop.invariant ∙ rw all)
