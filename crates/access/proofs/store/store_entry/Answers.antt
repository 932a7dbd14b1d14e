-- `access::store_entry` meets its contract: an unused entry and one off the board are stored nowhere.
use Rattle.access.proofs.InForce.{put_unused, put_off}
use Rattle.access.proofs.store.store_entry.Goals as goal

pub returns-then-processor-eq0 : goal.returns-then-processor-eq0
returns-then-processor-eq0 c =
    let a = c.args in
    put_unused _ a.list.now a.e a.access.now c.byte_at-processor.ensures c.if-processor-eq0.true

pub returns-then-row-ge-ROWS : goal.returns-then-row-ge-ROWS
returns-then-row-ge-ROWS c =
    let a = c.args in
    put_off _ a.list.now a.e a.access.now c.byte_at-processor.ensures c.if-processor-eq0.false c.row_of-row.ensures
    c.if-row-ge-ROWS.true
