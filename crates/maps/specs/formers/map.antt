pub mod TreeMap
