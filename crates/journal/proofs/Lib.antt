pub mod NamesOnly
