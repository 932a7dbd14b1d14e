-- What the items before an item of a board description say of it, noted one at a time: the answers that document 02's D3, D5 and D6
-- ask for.
use Rattle.std.specs.Prelude.{ℕ, ◌+◌, Bool, cond, not, ◌&&◌, ◌||◌, List, length, take, eqb}
use Rattle.rules.specs.declared.Item.{Item}
use Rattle.rules.specs.Description.{Description, nothing_listed, is_host, repeats, other_class, items_in, with_items}
use Rattle.board_description.specs.declared.earlier.Before.{Before}

-- what the first k items of the bytes list
unfoldable pub listed_before : List ℕ → ℕ → Description
listed_before bytes k = with_items nothing_listed (take k (items_in bytes))

-- the items are of one kind
unfoldable pub same_kind : Item → Item → Bool
same_kind x y = cond (is_host x) (is_host y) (not (is_host y))

-- y is a processor of another class in the cluster of x
unfoldable pub mixes_classes : Item → Item → Bool
mixes_classes x y =
    not (is_host y) && not (eqb x.cluster 0) && eqb x.cluster y.cluster && not (eqb x.mark y.mark)

-- how many of the kind of x are listed
unfoldable pub kind_count : Description → Item → ℕ
kind_count d x = cond (is_host x) (length d.hosts) (length d.processors)

-- what the items that are listed say of x: the answers that D3, D5 and D6 ask for
unfoldable pub before_in : Description → Item → Before
before_in d x = record { repeated = repeats d x; mixed = other_class d x; same = kind_count d x }

-- item y, one more before x, taken into account
unfoldable pub noted : Item → Before → Item → Before
noted x b y =
    record {
      repeated = cond (same_kind x y) (b.repeated || eqb x.number y.number) b.repeated;
      mixed = b.mixed || mixes_classes x y;
      same = cond (same_kind x y) (b.same + 1) b.same;
    }
