pub mod RowSearch
