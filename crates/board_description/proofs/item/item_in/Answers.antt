-- `board_description::item_in` meets its contract: each return is a part of what a good field is.
use borrow.Author.Rules.{rules}
use native.Mathlib.Omega.{arith}
use Rattle.rules.specs.Description.{no_item}
use Rattle.board_description.proofs.Fields.{none_whole, field_ends, none-tag, none-length, whole_item}
use Rattle.board_description.proofs.item.item_in.Goals as goal

pub returns-in_default : goal.returns-in_default
unfolding no_item
returns-in_default c = none_whole _ 0 c.tagged_at-tagged.ensures (search rules)

pub returns-then-size-eq0 : goal.returns-then-size-eq0
unfolding no_item
returns-then-size-eq0 c =
    let told = c in
    none-tag _ 0 told.tagged_at-tagged.ensures told.in-Field.is c.body_size-size.ensures.0 c.if-size-eq0.true

pub returns-then-length-size : goal.returns-then-length-size
unfolding no_item
returns-then-length-size c =
    let told = c in
    none-length _ 0 told.tagged_at-tagged.ensures told.in-Field.is c.body_size-size.ensures.0 c.if-length-size.true

pub slice_bounds-body-count : goal.slice_bounds-body-count
slice_bounds-body-count c =
    let told = c in
    omega (arith, field_ends _ 0 told.tagged_at-tagged.ensures told.in-Field.is)

pub slice_bounds-body-start : goal.slice_bounds-body-start
slice_bounds-body-start c =
    let told = c in
    omega (arith, field_ends _ 0 told.tagged_at-tagged.ensures told.in-Field.is)

pub returns : goal.returns
returns c =
    let good = c in
    let told = good in
    let a = told.args in
    whole_item a.bytes.now 0 told.tagged_at-tagged.ensures told.in-Field.is good.body_size-size.ensures.0
    good.if-size-eq0.false good.if-length-size.false c.byte_at-number.ensures c.byte_at-mark.ensures c.cluster_in-cluster.ensures
