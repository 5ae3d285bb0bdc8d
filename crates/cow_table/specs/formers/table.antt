pub mod CowTable
