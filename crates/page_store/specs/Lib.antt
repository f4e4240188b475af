pub mod StoreAnswer
