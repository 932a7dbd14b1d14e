-- What the items before an item of a description list, and what they say of it.
pub mod EarlierItems
