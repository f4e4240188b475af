pub mod PageLists
