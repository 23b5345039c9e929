mod Posts
mod Lists
