-- What crosses to C: the page record and a page's need, as numbers.
pub mod Exported
